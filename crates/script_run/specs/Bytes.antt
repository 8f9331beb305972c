-- The bytes of parts that the source of a run took, by blob and place.
use Rattle.std.specs.Prelude.{ℕ, ◌≡◌, ◌<◌, ◌+◌, ◌-◌, ◌^◌, List, [], ◌∷◌, ◌++◌, take, Option, Some, None}
use Rattle.cache_outside.specs.Listing.{Listing}
use Rattle.cache_outside.specs.Sources.{SourceView}
use Rattle.blob_parts.specs.Loads.{asked}
use Rattle.blob_parts.specs.Takes.{Took}
use Rattle.mount_script.specs.declared.command.Command.{Command}
use Rattle.mount_script.specs.declared.command.Command.TheVariants.{Mount}
use Rattle.mount_script.specs.declared.command.Line.{Line}
use Rattle.mount_script.specs.declared.reply.Reply.{Reply}
use Rattle.mount_script.specs.declared.reply.Reply.TheVariants as reply

-- the manifest's name that a line reads, where it is a `mount`
abbrev pub manifest_named : Command → Option (List ℕ)
manifest_named (Mount name manifest) = Some manifest
manifest_named _ = None

-- the same of a block: a `mount` line stands alone in its block
abbrev pub manifest_read : List Line → Option (List ℕ)
manifest_read (l ∷ []) = manifest_named l.command
manifest_read _ = None

-- some first bytes of the manifest with this name were taken, and nothing else
abbrev pub ManifestTook : Listing → List ℕ → SourceView → SourceView → Type 0
ManifestTook blobs manifest before now = (n : ℕ) × Took before.reads now.reads (take n (asked blobs manifest))

abbrev pub BytesTook : Listing → Option (List ℕ) → SourceView → SourceView → List (ℕ × ℕ) → Type 0
BytesTook blobs (Some manifest) before now places = (places ≡ []) × ManifestTook blobs manifest before now
BytesTook blobs None before now places = Took before.reads now.reads places

-- Blob and place of each byte of a part that the source took while a block ran, in order: none where it is the block of a `mount` line, which
-- reads of a manifest alone.
abbrev pub BlockTook : Listing → List Line → SourceView → SourceView → List (ℕ × ℕ) → Type 0
BlockTook blobs block = BytesTook blobs (manifest_read block)

-- the same of blocks, one after another
abbrev pub BlocksTook : Listing → List (List Line) → SourceView → SourceView → List (ℕ × ℕ) → Type 0
BlocksTook blobs [] before now places = (now ≡ before) × (places ≡ [])
BlocksTook blobs (b ∷ bs) before now places =
    (mid : SourceView) × (here : List (ℕ × ℕ)) × (rest : List (ℕ × ℕ)) × BlockTook blobs b before mid here × BlocksTook blobs bs mid now rest × (places ≡ here ++ rest)

-- so many bytes were fetched and read directly by what a reply to `stats` says, or one of its two sums stands at its last value
abbrev pub StatsCounted : ℕ → Reply → Type 0
StatsCounted n (reply.Stats free listed leaving evictions promotions demotions fetched direct) = fetched < 2 ^ 64 - 1 → direct < 2 ^ 64 - 1 → n ≡ fetched + direct
StatsCounted n _ = Unit {0}

-- this holds of the last of these replies, if there is one
abbrev pub OfLast : (Reply → Type 0) → List Reply → Type 0
OfLast P [] = Unit {0}
OfLast P (x ∷ []) = P x
OfLast P (x ∷ xs) = OfLast P xs
