-- What is mounted while a script runs, by its lines so far and their replies.
use Rattle.std.specs.Prelude.{ℕ, ◌+◌, List, ◌∷◌, Option, None, option_map, if◌then◌else◌}
use Rattle.std.specs.Str.{bytes_eq}
use Rattle.cache_outside.specs.Listing.{Listing, manifest_number}
use Rattle.index_mounts.specs.Rosters.{MountView, RosterView, mounted}
use Rattle.mount_script.specs.declared.command.Command.{Command}
use Rattle.mount_script.specs.declared.command.Command.TheVariants.{Mount, Unmount}
use Rattle.mount_script.specs.declared.command.Line.{Line}
use Rattle.mount_script.specs.declared.reply.Reply.{Reply}
use Rattle.mount_script.specs.declared.reply.Reply.TheVariants as reply
use Rattle.shard_replies.specs.ExpectedReplies.{Mounts}

abbrev pub nothing_mounted : Mounts
nothing_mounted = record { number_of = λ name. None; made = 0 }

-- with a mount of this manifest number under a name
abbrev pub with_name : List ℕ → Option ℕ → Mounts → Mounts
with_name name number m = record { number_of = λ other. if bytes_eq name other then number else m.number_of other; made = m.made + 1 }

-- with no mount under a name; as many were made
abbrev pub without_name : List ℕ → Mounts → Mounts
without_name name m = record { number_of = λ other. if bytes_eq name other then None else m.number_of other; made = m.made }

-- what is mounted behind a line: a mount that was made adds its name, an unmount takes it away
abbrev pub after_line : Listing → Command → Reply → Mounts → Mounts
after_line blobs (Mount name manifest) (reply.Mounted files docs) m = with_name name (manifest_number manifest blobs) m
after_line blobs (Unmount name) reply.Unmounted m = without_name name m
after_line blobs c x m = m

-- what is mounted behind a block: a line of the block sees none of it
abbrev pub after_block : Listing → List Line → List Reply → Mounts → Mounts
after_block blobs (l ∷ ls) (x ∷ xs) m = after_block blobs ls xs (after_line blobs l.command x m)
after_block blobs _ _ m = m

-- what is mounted behind these blocks
abbrev pub after_blocks : Listing → List (List Line) → List (List Reply) → Mounts → Mounts
after_blocks blobs (b ∷ bs) (xs ∷ xss) m = after_blocks blobs bs xss (after_block blobs b xs m)
after_blocks blobs bs xss m = m

-- what is mounted in a roster
abbrev pub mounts_of : RosterView → Mounts
mounts_of r = record { number_of = λ name. option_map (λ (m : MountView). m.number) (mounted name r); made = r.made }
