-- Where a cache has room for all that a run mounts.
use Rattle.std.specs.Prelude.{ℕ, ◌≤◌, List, [], ◌∷◌, ◌++◌, length, Bool, true, false, Option, Some, None}
use Rattle.std.specs.List.{list_any}
use Rattle.cache_outside.specs.Listing.{Listing, manifests, manifest_number}
use Rattle.mount_manifest.specs.Sound.{AreSound}
use Rattle.cache_reader.specs.MountsOnce.{manifests_files, ShareNoBlob, MountsFit, MountsOnce}
use Rattle.cache_reader.specs.Once.{region_counts, ActsGoOn}
use Rattle.mount_script.specs.declared.command.Command.{Command}
use Rattle.mount_script.specs.declared.command.Command.TheVariants.{Mount, Unmount, Clear}
use Rattle.mount_script.specs.declared.command.Line.{Line}
use Rattle.mount_script.specs.declared.reply.Reply.{Reply}
use Rattle.mount_script.specs.declared.reply.Reply.TheVariants as reply
use Rattle.script_run.specs.Lines.{Cached}

-- ---- what is mounted

abbrev pub number_list : Option ℕ → List ℕ
number_list None = []
number_list (Some n) = n ∷ []

-- the manifest that a line mounted, by its number
abbrev pub mounted_by : Listing → Command → Reply → List ℕ
mounted_by blobs (Mount name manifest) (reply.Mounted files docs) = number_list (manifest_number manifest blobs)
mounted_by blobs c x = []

abbrev pub mounted_in_block : Listing → List Line → List Reply → List ℕ
mounted_in_block blobs (l ∷ ls) (x ∷ xs) = mounted_by blobs l.command x ++ mounted_in_block blobs ls xs
mounted_in_block blobs _ _ = []

-- the manifests that a run mounted, in order, each as often as it was
abbrev pub all_mounted : Listing → List (List Line) → List (List Reply) → List ℕ
all_mounted blobs (b ∷ bs) (xs ∷ xss) = mounted_in_block blobs b xs ++ all_mounted blobs bs xss
all_mounted blobs _ _ = []

-- ---- room

-- the files of these manifests have no more regions than the cache, and no two of these manifests share a blob
pub record HasRoom (e : Cached) (mounted : List ℕ) : Type 0 where
  pub regions : region_counts e.config.region e.blobs (manifests_files e.blobs mounted) ≤ e.config.regions
  pub apart : ShareNoBlob e.blobs mounted

-- ---- what is stood on

-- laws of manifests and of the cache, and that the archive has no more manifests than numbers
pub record OnceLaws (blobs : Listing) : Type 0 where
  pub sound : AreSound
  pub few : length (manifests blobs) ≤ 65536
  pub go : ActsGoOn
  pub fit : MountsFit
  pub once : MountsOnce

-- ---- lines that let regions go

abbrev pub lets_go : Command → Bool
lets_go (Clear name) = true
lets_go (Unmount name) = true
lets_go _ = false

-- some line of these blocks is a `clear` or an `unmount`
abbrev pub some_clear : List (List Line) → Bool
some_clear blocks = list_any (λ block. list_any (λ (l : Line). lets_go l.command) block) blocks
