-- What clauses see of the bytes of files, and what no read of them changes.
use Rattle.std.specs.Prelude.{ℕ, ◌≡◌, ◌≤◌, Bool, IsTrue, List}
use Rattle.directory_input.specs.Reads.{Read}

-- the files of a mount: how many there are, the length of each, whether their bytes are told and which they are then,
-- the mount's number, how many faults there were so far, whether the mount was seen gone, and whether a read was refused
-- for want of memory
pub record FilesView : Type 0 where
  pub count : ℕ
  pub lengths : ℕ → ℕ
  pub tells : Bool
  pub bytes : ℕ → List ℕ
  pub mount : ℕ
  pub faults : ℕ
  pub gone : Bool
  pub out_of_memory : Bool

-- the same files, and no count or mark fell
pub record FilesLater (before now : FilesView) : Type 0 where
  pub count : now.count ≡ before.count
  pub lengths : now.lengths ≡ before.lengths
  pub tells : now.tells ≡ before.tells
  pub bytes : now.bytes ≡ before.bytes
  pub mount : now.mount ≡ before.mount
  pub faults : before.faults ≤ now.faults
  pub gone : IsTrue before.gone → IsTrue now.gone
  pub memory : IsTrue before.out_of_memory → IsTrue now.out_of_memory

-- the later state comes from the earlier one by some list of reads
pub record GoesOn {S : Type 0} (goes_by : List Read → S → S → Type 0) (before now : S) : Type 0 where
  pub reads : List Read
  pub by : goes_by reads before now
