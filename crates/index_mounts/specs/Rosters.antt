-- The mounts of a run, each under its name.
use Rattle.std.specs.Prelude.{ℕ, ◌≡◌, ◌<◌, ◌≤◌, ◌+◌, List, [], map, Bool, IsTrue, Option, Some, None, Ok}
use Rattle.std.specs.Str.{bytes_eq}
use Rattle.std.specs.Ordering.{nat_cmp}
use Rattle.std.specs.Cmp.Lexicographic.{slice_cmp}
use Rattle.std.specs.List.Sorted.{IsStrictlySortedBy}
use Rattle.std.specs.Map.{lookup, remove_entry, keys_of}
use Rattle.std.specs.BTreeMap.{insert_entry}
use Rattle.cache_outside.specs.Listing.{Listing}
use Rattle.mount_manifest.specs.Manifest.{Facts}
use Rattle.mount_manifest.specs.declared.record.FileRecord.{FileRecord}
use Rattle.blob_parts.specs.Tables.{TableParts, lengths_of}
use Rattle.blob_parts.specs.Content.{manifest_at, part_refusal}

-- a mount: its own number, that of its manifest, what the manifest tells, and where the bytes of its files are
pub record MountView : Type 0 where
  pub mount : ℕ
  pub number : ℕ
  pub facts : Facts
  pub parts : TableParts

-- a roster: the mounts under their names, in the order of the names, and how many mounts were made so far
pub record RosterView : Type 0 where
  pub mounts : List (List ℕ × MountView)
  pub made : ℕ

-- the mount under a name
abbrev pub mounted : List ℕ → RosterView → Option MountView
mounted name r = lookup (bytes_eq name) r.mounts

abbrev pub no_mounts : RosterView
no_mounts = record { mounts = []; made = 0 }

-- with a mount of this manifest under a name; its number is that of the mounts made so far
abbrev pub with_mount : List ℕ → ℕ → Facts → TableParts → RosterView → RosterView
with_mount name number facts parts r = record {
  mounts = insert_entry (slice_cmp nat_cmp) r.mounts name (record { mount = r.made; number = number; facts = facts; parts = parts });
  made = r.made + 1;
}

-- with no mount under a name; as many were made
abbrev pub without : List ℕ → RosterView → RosterView
without name r = record { mounts = remove_entry (bytes_eq name) r.mounts; made = r.made }

-- a table was resolved from a manifest: the number and the lengths of the files are the manifest's, and where the archive
-- tells, the manifest is the one with that number, and each part of its files is there in its size
pub record IsResolved (tells : Bool) (blobs : Listing) (n : ℕ) (facts : Facts) (parts : TableParts) : Type 0 where
  pub number : parts.number ≡ n
  pub lengths : lengths_of parts.files ≡ map (λ (f : FileRecord). f.length) facts.files
  pub manifest : IsTrue tells → manifest_at blobs n ≡ Ok facts
  pub whole : IsTrue tells → part_refusal blobs facts.files ≡ None

-- what is true of a mount in a roster in which `made` mounts were made
pub record IsMount (tells : Bool) (blobs : Listing) (made : ℕ) (m : MountView) : Type 0 where
  pub below : m.mount < made
  pub resolved : IsResolved tells blobs m.number m.facts m.parts

-- what is true of every roster: at most 4,096 mounts were made, the names ascend, and no two names have one mount
pub record IsRoster (tells : Bool) (blobs : Listing) (r : RosterView) : Type 0 where
  pub few : r.made ≤ 4096
  pub ascend : IsStrictlySortedBy (slice_cmp nat_cmp) (keys_of r.mounts)
  pub mounts : (name : List ℕ) (m : MountView) → mounted name r ≡ Some m → IsMount tells blobs r.made m
  pub once : (name other : List ℕ) (m n : MountView) → mounted name r ≡ Some m → mounted other r ≡ Some n → m.mount ≡ n.mount → name ≡ other
