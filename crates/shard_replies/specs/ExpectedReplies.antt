-- The reply that a command has where the archive is held whole in memory: each file is the bytes of its parts, joined.
-- The refusals of a command stand in the order of these functions.
use Rattle.std.specs.Prelude.{ℕ, ◌+◌, List, [], ◌++◌, length, take, map, nat_lt, nat_le, Option, Some, None, is_some, Result, Ok, Err, if◌then◌else◌, slice_get, codes}
use Rattle.std.specs.List.{sum_by}
use Rattle.std.specs.Option.{option_map_or}
use Rattle.std.specs.Fmt.{decimal}
use Rattle.cache_outside.specs.Listing.{Listing, manifest_number}
use Rattle.mount_manifest.specs.Manifest.{Facts, file_number, segment_number}
use Rattle.mount_manifest.specs.Words.{word}
use Rattle.mount_manifest.specs.declared.record.FileRecord.{FileRecord}
use Rattle.mount_manifest.specs.declared.record.Segment.{Segment}
use Rattle.mount_manifest.specs.declared.error.ManifestError.{ManifestError}
use Rattle.mount_manifest.specs.declared.error.ManifestError.TheVariants as manifest
use Rattle.blob_parts.specs.Content.{content, manifest_at, part_refusal, PartRefusal, no_part, other_size}
use Rattle.directory_input.specs.Reads.{slice_of, Read as FileRead, one_read}
use Rattle.simpletext_stored.specs.declared.field.Kind.{Kind}
use Rattle.simpletext_stored.specs.declared.field.Kind.TheVariants as kind
use Rattle.simpletext_stored.specs.declared.field.StoredField.{StoredField}
use Rattle.query_lang.specs.Trees.{Tree}
use Rattle.query_lang.specs.Reading.{query}
use Rattle.query_lang.specs.declared.error.QueryError.{QueryError}
use Rattle.shard_search.specs.Hits.{BadFile, hits, document}
use Rattle.mount_script.specs.declared.command.Command.{Command}
use Rattle.mount_script.specs.declared.command.Command.TheVariants.{Mount, Unmount, Clear, Decay, Stats, Search, Fetch, Read}
use Rattle.mount_script.specs.declared.reply.Reply.{Reply}
use Rattle.mount_script.specs.declared.reply.Reply.TheVariants as reply

abbrev pub refused : List ℕ → Reply
refused text = reply.Refused text

-- ---- mounting

-- a manifest of the archive, by its number, and what it tells
pub record Loaded : Type 0 where
  pub number : ℕ
  pub facts : Facts

-- a text is refused; none is for want of memory
abbrev pub error_reply : ManifestError → Reply
error_reply manifest.NotJson = refused (codes "refused json")
error_reply (manifest.Shape field) = refused (codes "refused shape " ++ word field)
error_reply (manifest.Limit field value) = refused (codes "refused limit " ++ word field)
error_reply (manifest.Double name) = refused (codes "refused double " ++ name)
error_reply (manifest.NoFile name) = refused (codes "refused nofile " ++ name)
error_reply manifest.NoMemory = reply.NoMemory

abbrev pub part_reply : PartRefusal → Reply
part_reply (no_part name) = refused (codes "refused part " ++ name)
part_reply (other_size name told wanted) = refused (codes "refused size " ++ name)

-- the parts of a manifest that tells something
abbrev pub fitting : ℕ → Facts → Option PartRefusal → Result Loaded Reply
fitting m f None = Ok (record { number = m; facts = f })
fitting m f (Some refusal) = Err (part_reply refusal)

abbrev pub told : Listing → ℕ → Result Facts ManifestError → Result Loaded Reply
told blobs m (Err e) = Err (error_reply e)
told blobs m (Ok f) = fitting m f (part_refusal blobs f.files)

abbrev pub found : Listing → Option ℕ → Result Loaded Reply
found blobs None = Err (refused (codes "refused missing"))
found blobs (Some m) = told blobs m (manifest_at blobs m)

-- the manifest of this name, all of whose parts are there, or why there is none
abbrev pub loaded : Listing → List ℕ → Result Loaded Reply
loaded blobs name = found blobs (manifest_number name blobs)

-- how many files there are, and how many documents the segments have together
abbrev pub mounted : Facts → Reply
mounted f = reply.Mounted (length f.files) (sum_by (λ s. s.docs) f.segments)

abbrev pub mounted_reply : Result Loaded Reply → Reply
mounted_reply (Ok l) = mounted l.facts
mounted_reply (Err r) = r

-- ---- a search

abbrev pub segment_name : List Segment → ℕ → List ℕ
segment_name segments n = option_map_or (λ (s : Segment). s.name) (slice_get segments n) []

abbrev pub physical_name : List FileRecord → ℕ → List ℕ
physical_name files i = option_map_or (λ (f : FileRecord). f.physical_name) (slice_get files i) []

-- a hit as it is shown: its segment's name and its document
abbrev pub shown : List Segment → ℕ × ℕ → List ℕ × ℕ
shown segments hit = (segment_name segments hit.0, hit.1)

-- a file has a line that is not allowed: its physical name, and where the first such line begins
abbrev pub bad_reply : List FileRecord → BadFile → Reply
bad_reply files bad = refused (codes "bad shard " ++ (physical_name files bad.file ++ (codes " " ++ decimal bad.at)))

-- the number of hits, and the first `size` of them
abbrev pub hits_reply : Facts → ℕ → Result (List (ℕ × ℕ)) BadFile → Reply
hits_reply f size (Ok hs) = reply.Hits (length hs) (map (shown f.segments) (take size hs))
hits_reply f size (Err bad) = bad_reply f.files bad

abbrev pub tree_reply : (ℕ → List ℕ) → Facts → ℕ → Tree → Reply
tree_reply bytes f size tree = hits_reply f size (hits bytes tree f.segments)

abbrev pub query_reply : (ℕ → List ℕ) → Facts → ℕ → Result Tree QueryError → Reply
query_reply bytes f size (Err e) = refused (codes "bad query")
query_reply bytes f size (Ok tree) = tree_reply bytes f size tree

-- `bytes` gives each file's bytes by its number
abbrev pub search_reply : (ℕ → List ℕ) → Facts → ℕ → List ℕ → Reply
search_reply bytes f size text = query_reply bytes f size (query text)

-- ---- a fetch

abbrev pub kind_word : Kind → List ℕ
kind_word kind.Str = codes "string"
kind_word kind.Binary = codes "binary"
kind_word kind.Int = codes "int"
kind_word kind.Long = codes "long"
kind_word kind.Float = codes "float"
kind_word kind.Double = codes "double"

-- a field as it is given: its name, the word of its kind, and its value
abbrev pub given : StoredField → List ℕ × List ℕ × List ℕ
given field = (field.name, kind_word field.kind, field.value)

abbrev pub fields_reply : List FileRecord → Result (Option (List StoredField)) BadFile → Reply
fields_reply files (Err bad) = bad_reply files bad
fields_reply files (Ok None) = refused (codes "no doc")
fields_reply files (Ok (Some fields)) = reply.Fields (map given fields)

abbrev pub stored_reply : (ℕ → List ℕ) → Facts → ℕ → Segment → Option ℕ → Reply
stored_reply bytes f doc s None = refused (codes "no file")
stored_reply bytes f doc s (Some file) = fields_reply f.files (document bytes file s doc)

abbrev pub segment_reply : (ℕ → List ℕ) → Facts → ℕ → Option Segment → Reply
segment_reply bytes f doc None = refused (codes "no file")
segment_reply bytes f doc (Some s) = stored_reply bytes f doc s s.stored

-- the segment of a number that may be there
abbrev pub at_number : {A : Type 0} → List A → Option ℕ → Option A
at_number xs None = None
at_number xs (Some i) = slice_get xs i

abbrev pub fetch_reply : (ℕ → List ℕ) → Facts → List ℕ → ℕ → Reply
fetch_reply bytes f segment doc = segment_reply bytes f doc (at_number f.segments (segment_number f.segments segment))

-- ---- a read

abbrev pub slice_reply : List ℕ → ℕ → ℕ → Reply
slice_reply bytes at len = if nat_lt (length bytes) (at + len) then refused (codes "past end") else reply.Bytes (slice_of at len bytes)

abbrev pub file_reply : (ℕ → List ℕ) → ℕ → ℕ → Option ℕ → Reply
file_reply bytes at len None = refused (codes "no file")
file_reply bytes at len (Some i) = slice_reply (bytes i) at len

abbrev pub read_reply : (ℕ → List ℕ) → Facts → List ℕ → ℕ → ℕ → Reply
read_reply bytes f file at len = file_reply bytes at len (file_number f.files file)

-- The reads of a read: the one of that file at that place, where the file is there and the range lies in it; else none.
-- `lengths` gives each file's length by its number.
abbrev pub slice_steps : ℕ → ℕ → ℕ → ℕ → List FileRead
slice_steps file length at len = if nat_lt length (at + len) then [] else one_read file at len

abbrev pub file_steps : (ℕ → ℕ) → ℕ → ℕ → Option ℕ → List FileRead
file_steps lengths at len None = []
file_steps lengths at len (Some i) = slice_steps i (lengths i) at len

abbrev pub read_steps : (ℕ → ℕ) → Facts → List ℕ → ℕ → ℕ → List FileRead
read_steps lengths f file at len = file_steps lengths at len (file_number f.files file)

-- ---- every command

-- what is mounted: the manifest number of each mount by its name, and how many mounts were ever made
pub record Mounts : Type 0 where
  pub number_of : List ℕ → Option ℕ
  pub made : ℕ

abbrev pub mount_reply : Listing → Mounts → List ℕ → List ℕ → Reply
mount_reply blobs mounts name manifest =
    if is_some (mounts.number_of name) then refused (codes "refused name")
    else if nat_le 4096 mounts.made then refused (codes "refused full")
    else mounted_reply (loaded blobs manifest)

abbrev pub facts_in : Result Facts ManifestError → Facts
facts_in (Ok f) = f
facts_in (Err e) = record { files = []; segments = [] }

-- a command on a mount of manifest number m; the commands that name no mount are not asked here
abbrev pub mount_command : Listing → ℕ → Facts → Command → Reply
mount_command blobs m f (Search name size text) = search_reply (content blobs m) f size text
mount_command blobs m f (Fetch name segment doc) = fetch_reply (content blobs m) f segment doc
mount_command blobs m f (Read name file at len) = read_reply (content blobs m) f file at len
mount_command blobs m f (Unmount name) = reply.Unmounted
mount_command blobs m f (Clear name) = reply.Cleared
mount_command blobs m f _ = refused (codes "not mounted")

abbrev pub named_reply : Listing → Option ℕ → Command → Reply
named_reply blobs None command = refused (codes "not mounted")
named_reply blobs (Some m) command = mount_command blobs m (facts_in (manifest_at blobs m)) command

-- the mount that a command names
abbrev pub used_name : Command → List ℕ
used_name (Unmount name) = name
used_name (Clear name) = name
used_name (Search name size text) = name
used_name (Fetch name segment doc) = name
used_name (Read name file at len) = name
used_name _ = []

-- the reply to a command. That of `stats` speaks of the cache; here stands the one where several workers run
abbrev pub expected_reply : Listing → Mounts → Command → Reply
expected_reply blobs mounts (Mount name manifest) = mount_reply blobs mounts name manifest
expected_reply blobs mounts Decay = reply.Decayed
expected_reply blobs mounts Stats = refused (codes "refused stats")
expected_reply blobs mounts command = named_reply blobs (mounts.number_of (used_name command)) command
