-- Worked commands: their replies by the definitions, over the sample archive and small ones.
use Rattle.std.proofs.Common.{◌≡◌, ℕ, List, [], ◌∷◌, refl}
use Rattle.std.specs.Prelude.{codes, Option, Some, None, if◌then◌else◌}
use Rattle.std.specs.Str.{bytes_eq, is_utf8, chars}
use Rattle.std.specs.Fmt.{digits}
use Rattle.base64.specs.Rfc4648.{encode_symbols}
use Rattle.hex.specs.Hex.{encode_with}
use Rattle.serde_json.proofs.OnLiterals.{serde_json_on_literals}
use Rattle.cache_outside.specs.Listing.{Listing}
use Rattle.mount_manifest.specs.Manifest.{file_facts, segment_facts, shaped, file_limits, placed, checked}
use Rattle.text_lines.specs.Lines.{cut}
use Rattle.simpletext_postings.specs.Postings.{form_of, indented_form}
use Rattle.simpletext_stored.specs.Live as live_text
use Rattle.simpletext_stored.specs.Stored as stored_text
use Rattle.mount_script.specs.declared.command.Command.TheVariants.{Mount, Unmount, Clear, Decay, Stats, Search, Fetch, Read}
use Rattle.mount_script.specs.Replies.{text_of}
use Rattle.shard_replies.specs.ExpectedReplies.{Mounts, expected_reply}
use Rattle.sample_archive.specs.Sample.{sample, manifest_x, manifest_y, part_0, counting}

-- `logs`, `y` and `z`, of three manifests of the sample archive
abbrev number_in_two : List ℕ → Option ℕ
number_in_two name =
    if bytes_eq name (codes "logs") then Some 1
    else if bytes_eq name (codes "y") then Some 2
    else if bytes_eq name (codes "z") then Some 3
    else None

abbrev two : Mounts
two = record { number_of = number_in_two; made = 3 }

-- as many mounts as can ever be made
abbrev many : Mounts
many = record { number_of = number_in_two; made = 4096 }

abbrev one : Mounts
one = record { number_of = λ name. Some 0; made = 1 }

-- manifests that are refused, each for one cause
abbrev refusing : Listing
refusing =
    (codes "__a.part0", part_0)
    ∷ (codes "__b", counting 9999)
    ∷ (codes "mount-a", codes "{")
    ∷ (codes "mount-b", codes "{\"version\":1,\"files\":[{\"name\":\"__b\",\"physical_name\":\"f\"}],\"segments\":[]}")
    ∷ (codes "mount-c", codes "{\"version\":1,\"files\":[{\"name\":\"__b\",\"physical_name\":\"f\",\"length\":1099511623681}],\"segments\":[]}")
    ∷ (codes "mount-d", codes "{\"version\":1,\"files\":[{\"name\":\"__b\",\"physical_name\":\"f\",\"length\":1},{\"name\":\"__c\",\"physical_name\":\"f\",\"length\":1}],\"segments\":[]}")
    ∷ (codes "mount-e", codes "{\"version\":1,\"files\":[{\"name\":\"__b\",\"physical_name\":\"f\",\"length\":1}],\"segments\":[{\"name\":\"_0\",\"docs\":3,\"postings\":\"g\"}]}")
    ∷ (codes "mount-x", manifest_x)
    ∷ (codes "mount-y", manifest_y)
    ∷ []

-- postings that end inside a line
abbrev cut_off : Listing
cut_off =
    (codes "__a", part_0)
    ∷ (codes "mount-a", codes "{\"version\":1,\"files\":[{\"name\":\"__a\",\"physical_name\":\"_0.pst\",\"length\":100}],\"segments\":[{\"name\":\"_0\",\"docs\":3,\"postings\":\"_0.pst\"}]}")
    ∷ []

-- ---- mounting, in the order of its refusals

pub mounts : text_of (expected_reply sample two (Mount (codes "n") (codes "mount-x"))) ≡ codes "mounted 1 files 3 docs"
unfolding sample file_facts segment_facts shaped file_limits placed checked cut form_of indented_form live_text.form_of stored_text.form_of digits is_utf8 chars serde_json_on_literals encode_symbols encode_with
mounts = refl

pub mounts_three_files : text_of (expected_reply sample two (Mount (codes "n") (codes "mount-z"))) ≡ codes "mounted 3 files 3 docs"
unfolding sample file_facts segment_facts shaped file_limits placed checked cut form_of indented_form live_text.form_of stored_text.form_of digits is_utf8 chars serde_json_on_literals encode_symbols encode_with
mounts_three_files = refl

pub name_taken : text_of (expected_reply sample two (Mount (codes "logs") (codes "mount-q"))) ≡ codes "refused name"
unfolding sample file_facts segment_facts shaped file_limits placed checked cut form_of indented_form live_text.form_of stored_text.form_of digits is_utf8 chars serde_json_on_literals encode_symbols encode_with
name_taken = refl

pub full : text_of (expected_reply sample many (Mount (codes "n") (codes "mount-q"))) ≡ codes "refused full"
unfolding sample file_facts segment_facts shaped file_limits placed checked cut form_of indented_form live_text.form_of stored_text.form_of digits is_utf8 chars serde_json_on_literals encode_symbols encode_with
full = refl

pub missing : text_of (expected_reply sample two (Mount (codes "n") (codes "mount-q"))) ≡ codes "refused missing"
unfolding sample file_facts segment_facts shaped file_limits placed checked cut form_of indented_form live_text.form_of stored_text.form_of digits is_utf8 chars serde_json_on_literals encode_symbols encode_with
missing = refl

pub json : text_of (expected_reply refusing two (Mount (codes "n") (codes "mount-a"))) ≡ codes "refused json"
unfolding sample file_facts segment_facts shaped file_limits placed checked cut form_of indented_form live_text.form_of stored_text.form_of digits is_utf8 chars serde_json_on_literals encode_symbols encode_with
json = refl

pub shape : text_of (expected_reply refusing two (Mount (codes "n") (codes "mount-b"))) ≡ codes "refused shape length"
unfolding sample file_facts segment_facts shaped file_limits placed checked cut form_of indented_form live_text.form_of stored_text.form_of digits is_utf8 chars serde_json_on_literals encode_symbols encode_with
shape = refl

pub limit : text_of (expected_reply refusing two (Mount (codes "n") (codes "mount-c"))) ≡ codes "refused limit length"
unfolding sample file_facts segment_facts shaped file_limits placed checked cut form_of indented_form live_text.form_of stored_text.form_of digits is_utf8 chars serde_json_on_literals encode_symbols encode_with
limit = refl

pub double : text_of (expected_reply refusing two (Mount (codes "n") (codes "mount-d"))) ≡ codes "refused double f"
unfolding sample file_facts segment_facts shaped file_limits placed checked cut form_of indented_form live_text.form_of stored_text.form_of digits is_utf8 chars serde_json_on_literals encode_symbols encode_with
double = refl

pub nofile : text_of (expected_reply refusing two (Mount (codes "n") (codes "mount-e"))) ≡ codes "refused nofile g"
unfolding sample file_facts segment_facts shaped file_limits placed checked cut form_of indented_form live_text.form_of stored_text.form_of digits is_utf8 chars serde_json_on_literals encode_symbols encode_with
nofile = refl

pub part : text_of (expected_reply refusing two (Mount (codes "n") (codes "mount-x"))) ≡ codes "refused part __a.part1"
unfolding sample file_facts segment_facts shaped file_limits placed checked cut form_of indented_form live_text.form_of stored_text.form_of digits is_utf8 chars serde_json_on_literals encode_symbols encode_with
part = refl

pub size : text_of (expected_reply refusing two (Mount (codes "n") (codes "mount-y"))) ≡ codes "refused size __b"
unfolding sample file_facts segment_facts shaped file_limits placed checked cut form_of indented_form live_text.form_of stored_text.form_of digits is_utf8 chars serde_json_on_literals encode_symbols encode_with
size = refl

-- ---- searches

pub searches : text_of (expected_reply sample two (Search (codes "logs") 10 (codes "{\"term\":{\"body\":\"fox\"}}"))) ≡ codes "hits 2 _0/0 _0/2"
unfolding sample file_facts segment_facts shaped file_limits placed checked cut form_of indented_form live_text.form_of stored_text.form_of digits is_utf8 chars serde_json_on_literals encode_symbols encode_with
searches = refl

pub shows_one : text_of (expected_reply sample two (Search (codes "logs") 1 (codes "{\"term\":{\"body\":\"fox\"}}"))) ≡ codes "hits 2 _0/0"
unfolding sample file_facts segment_facts shaped file_limits placed checked cut form_of indented_form live_text.form_of stored_text.form_of digits is_utf8 chars serde_json_on_literals encode_symbols encode_with
shows_one = refl

pub must_not : text_of (expected_reply sample two (Search (codes "logs") 10 (codes "{\"bool\":{\"must_not\":{\"term\":{\"body\":\"red\"}}}}"))) ≡ codes "hits 2 _0/1 _0/2"
unfolding sample file_facts segment_facts shaped file_limits placed checked cut form_of indented_form live_text.form_of stored_text.form_of digits is_utf8 chars serde_json_on_literals encode_symbols encode_with
must_not = refl

pub all_shown_none : text_of (expected_reply sample two (Search (codes "logs") 0 (codes "{\"bool\":{}}"))) ≡ codes "hits 3"
unfolding sample file_facts segment_facts shaped file_limits placed checked cut form_of indented_form live_text.form_of stored_text.form_of digits is_utf8 chars serde_json_on_literals encode_symbols encode_with
all_shown_none = refl

pub both : text_of (expected_reply sample two (Search (codes "logs") 10 (codes "{\"bool\":{\"should\":[{\"term\":{\"body\":\"fox\"}},{\"term\":{\"body\":\"red\"}}],\"minimum_should_match\":2}}"))) ≡ codes "hits 1 _0/0"
unfolding sample file_facts segment_facts shaped file_limits placed checked cut form_of indented_form live_text.form_of stored_text.form_of digits is_utf8 chars serde_json_on_literals encode_symbols encode_with
both = refl

pub three_of_two : text_of (expected_reply sample two (Search (codes "logs") 10 (codes "{\"bool\":{\"should\":[{\"term\":{\"body\":\"fox\"}},{\"term\":{\"body\":\"red\"}}],\"minimum_should_match\":3}}"))) ≡ codes "hits 0"
unfolding sample file_facts segment_facts shaped file_limits placed checked cut form_of indented_form live_text.form_of stored_text.form_of digits is_utf8 chars serde_json_on_literals encode_symbols encode_with
three_of_two = refl

pub no_field : text_of (expected_reply sample two (Search (codes "logs") 10 (codes "{\"term\":{\"none\":\"fox\"}}"))) ≡ codes "hits 0"
unfolding sample file_facts segment_facts shaped file_limits placed checked cut form_of indented_form live_text.form_of stored_text.form_of digits is_utf8 chars serde_json_on_literals encode_symbols encode_with
no_field = refl

pub bad_query : text_of (expected_reply sample two (Search (codes "logs") 10 (codes "{\"term\":{\"body\":5}}"))) ≡ codes "bad query"
unfolding sample file_facts segment_facts shaped file_limits placed checked cut form_of indented_form live_text.form_of stored_text.form_of digits is_utf8 chars serde_json_on_literals encode_symbols encode_with
bad_query = refl

pub live_alone : text_of (expected_reply sample two (Search (codes "z") 10 (codes "{\"bool\":{\"must_not\":{\"term\":{\"body\":\"red\"}}}}"))) ≡ codes "hits 1 _0/2"
unfolding sample file_facts segment_facts shaped file_limits placed checked cut form_of indented_form live_text.form_of stored_text.form_of digits is_utf8 chars serde_json_on_literals encode_symbols encode_with
live_alone = refl

pub bad_shard : text_of (expected_reply cut_off one (Search (codes "logs") 10 (codes "{\"term\":{\"body\":\"fox\"}}"))) ≡ codes "bad shard _0.pst 92"
unfolding sample file_facts segment_facts shaped file_limits placed checked cut form_of indented_form live_text.form_of stored_text.form_of digits is_utf8 chars serde_json_on_literals encode_symbols encode_with
bad_shard = refl

pub bad_query_first : text_of (expected_reply cut_off one (Search (codes "logs") 10 (codes "{"))) ≡ codes "bad query"
unfolding sample file_facts segment_facts shaped file_limits placed checked cut form_of indented_form live_text.form_of stored_text.form_of digits is_utf8 chars serde_json_on_literals encode_symbols encode_with
bad_query_first = refl

-- ---- fetches

pub fetches : text_of (expected_reply sample two (Fetch (codes "z") (codes "_0") 0)) ≡ codes "fields 1 dGl0bGU=:string:cmVkIGZveA=="
unfolding sample file_facts segment_facts shaped file_limits placed checked cut form_of indented_form live_text.form_of stored_text.form_of digits is_utf8 chars serde_json_on_literals encode_symbols encode_with
fetches = refl

pub not_live : text_of (expected_reply sample two (Fetch (codes "z") (codes "_0") 1)) ≡ codes "no doc"
unfolding sample file_facts segment_facts shaped file_limits placed checked cut form_of indented_form live_text.form_of stored_text.form_of digits is_utf8 chars serde_json_on_literals encode_symbols encode_with
not_live = refl

pub past_count : text_of (expected_reply sample two (Fetch (codes "z") (codes "_0") 3)) ≡ codes "no doc"
unfolding sample file_facts segment_facts shaped file_limits placed checked cut form_of indented_form live_text.form_of stored_text.form_of digits is_utf8 chars serde_json_on_literals encode_symbols encode_with
past_count = refl

pub no_stored_file : text_of (expected_reply sample two (Fetch (codes "logs") (codes "_0") 0)) ≡ codes "no file"
unfolding sample file_facts segment_facts shaped file_limits placed checked cut form_of indented_form live_text.form_of stored_text.form_of digits is_utf8 chars serde_json_on_literals encode_symbols encode_with
no_stored_file = refl

pub no_segment : text_of (expected_reply sample two (Fetch (codes "z") (codes "_1") 0)) ≡ codes "no file"
unfolding sample file_facts segment_facts shaped file_limits placed checked cut form_of indented_form live_text.form_of stored_text.form_of digits is_utf8 chars serde_json_on_literals encode_symbols encode_with
no_segment = refl

-- ---- reads

pub across_parts : text_of (expected_reply sample two (Read (codes "logs") (codes "_0.pst") 98 4)) ≡ codes "bytes 4 20726564"
unfolding sample file_facts segment_facts shaped file_limits placed checked cut form_of indented_form live_text.form_of stored_text.form_of digits is_utf8 chars serde_json_on_literals encode_symbols encode_with
across_parts = refl

pub sixteen : text_of (expected_reply sample two (Read (codes "y") (codes "big.bin") 4090 16)) ≡ codes "bytes 16 4a4b4c4d4e4f50515253545556575859"
unfolding sample file_facts segment_facts shaped file_limits placed checked cut form_of indented_form live_text.form_of stored_text.form_of digits is_utf8 chars serde_json_on_literals encode_symbols encode_with
sixteen = refl

pub last_byte : text_of (expected_reply sample two (Read (codes "y") (codes "big.bin") 9999 1)) ≡ codes "bytes 1 d2"
unfolding sample file_facts segment_facts shaped file_limits placed checked cut form_of indented_form live_text.form_of stored_text.form_of digits is_utf8 chars serde_json_on_literals encode_symbols encode_with
last_byte = refl

pub one_past : text_of (expected_reply sample two (Read (codes "y") (codes "big.bin") 9999 2)) ≡ codes "past end"
unfolding sample file_facts segment_facts shaped file_limits placed checked cut form_of indented_form live_text.form_of stored_text.form_of digits is_utf8 chars serde_json_on_literals encode_symbols encode_with
one_past = refl

pub at_end : text_of (expected_reply sample two (Read (codes "y") (codes "big.bin") 10000 0)) ≡ codes "bytes 0"
unfolding sample file_facts segment_facts shaped file_limits placed checked cut form_of indented_form live_text.form_of stored_text.form_of digits is_utf8 chars serde_json_on_literals encode_symbols encode_with
at_end = refl

pub past_end : text_of (expected_reply sample two (Read (codes "y") (codes "big.bin") 10001 0)) ≡ codes "past end"
unfolding sample file_facts segment_facts shaped file_limits placed checked cut form_of indented_form live_text.form_of stored_text.form_of digits is_utf8 chars serde_json_on_literals encode_symbols encode_with
past_end = refl

pub no_file : text_of (expected_reply sample two (Read (codes "y") (codes "_0.pst") 0 0)) ≡ codes "no file"
unfolding sample file_facts segment_facts shaped file_limits placed checked cut form_of indented_form live_text.form_of stored_text.form_of digits is_utf8 chars serde_json_on_literals encode_symbols encode_with
no_file = refl

-- ---- names, and what takes none

pub not_mounted : text_of (expected_reply sample two (Read (codes "none") (codes "f") 0 0)) ≡ codes "not mounted"
unfolding sample file_facts segment_facts shaped file_limits placed checked cut form_of indented_form live_text.form_of stored_text.form_of digits is_utf8 chars serde_json_on_literals encode_symbols encode_with
not_mounted = refl

pub clears : text_of (expected_reply sample two (Clear (codes "logs"))) ≡ codes "cleared"
unfolding sample file_facts segment_facts shaped file_limits placed checked cut form_of indented_form live_text.form_of stored_text.form_of digits is_utf8 chars serde_json_on_literals encode_symbols encode_with
clears = refl

pub clears_none : text_of (expected_reply sample two (Clear (codes "none"))) ≡ codes "not mounted"
unfolding sample file_facts segment_facts shaped file_limits placed checked cut form_of indented_form live_text.form_of stored_text.form_of digits is_utf8 chars serde_json_on_literals encode_symbols encode_with
clears_none = refl

pub unmounts : text_of (expected_reply sample two (Unmount (codes "logs"))) ≡ codes "unmounted"
unfolding sample file_facts segment_facts shaped file_limits placed checked cut form_of indented_form live_text.form_of stored_text.form_of digits is_utf8 chars serde_json_on_literals encode_symbols encode_with
unmounts = refl

pub decays : text_of (expected_reply sample two (Decay)) ≡ codes "decayed"
unfolding sample file_facts segment_facts shaped file_limits placed checked cut form_of indented_form live_text.form_of stored_text.form_of digits is_utf8 chars serde_json_on_literals encode_symbols encode_with
decays = refl

pub stats : text_of (expected_reply sample two (Stats)) ≡ codes "refused stats"
unfolding sample file_facts segment_facts shaped file_limits placed checked cut form_of indented_form live_text.form_of stored_text.form_of digits is_utf8 chars serde_json_on_literals encode_symbols encode_with
stats = refl
