-- What clauses see of a frame and of a maker of frames, and what their calls leave of them.
use Rattle.std.specs.Prelude.{ℕ, ◌≡◌, ◌≤◌, ◌+◌, List, ◌++◌, length, take, drop, Result, IsErr, IsOk, IsErrOf, Bool, IsTrue}
use Rattle.byte_text.specs.Counts.{Rose}
use Rattle.cache_outside.specs.declared.fault.OutError.{OutError}
use Rattle.cache_outside.specs.declared.fault.OutError.TheVariants.{Failed}

pub record FrameView : Type 0 where
  pub size : ℕ  -- how many bytes it has
  pub tells : Bool  -- whether what clauses say of its bytes holds
  pub steady : Bool  -- whether it never fails
  pub faults : ℕ  -- how often it has failed
  pub bytes : List ℕ  -- the bytes that it holds, where it tells

-- what a call leaves of a frame: its size, whether it tells and whether it is steady, and a count of faults that never
-- falls; a fault comes only where the count rose; a steady frame never faults, and its count stands
pub record FrameAfter {T E : Type 0} (before now : FrameView) (result : Result T E) : Type 0 where
  pub size : now.size ≡ before.size
  pub tells : now.tells ≡ before.tells
  pub steady : now.steady ≡ before.steady
  pub later : before.faults ≤ now.faults
  pub faulted : IsErr result → Rose before.faults now.faults
  pub stands : IsTrue before.steady → now.faults ≡ before.faults
  pub answers : IsTrue before.steady → IsOk result

-- `len` bytes from the place `at` on
abbrev pub bytes_at : ℕ → ℕ → List ℕ → List ℕ
bytes_at at len bytes = take len (drop at bytes)

-- a piece put over the bytes from the place `at` on
abbrev pub put_at : ℕ → List ℕ → List ℕ → List ℕ
put_at at piece bytes = take at bytes ++ piece ++ drop (at + length piece) bytes

-- all bytes but the `len` from the place `at` on stand
pub record SameOutside (at len : ℕ) (before now : List ℕ) : Type 0 where
  pub front : take at now ≡ take at before
  pub rest : drop (at + len) now ≡ drop (at + len) before

pub record MakerView : Type 0 where
  pub faults : ℕ  -- how often it has failed
  pub tells : Bool  -- whether each frame that it makes tells its bytes
  pub steady : Bool  -- whether each frame that it makes is steady

-- what a maker makes: a frame of this size, which tells, and is steady, where the maker's frames do
pub record IsMadeBy (maker : MakerView) (asked : ℕ) (frame : FrameView) : Type 0 where
  pub size : frame.size ≡ asked
  pub tells : IsTrue maker.tells → IsTrue frame.tells
  pub steady : IsTrue maker.steady → IsTrue frame.steady

-- what a call leaves of a maker: what is said of its frames, and a count of faults that never falls; `Failed` comes only
-- where it rose
pub record MakerAfter {T : Type 0} (before now : MakerView) (result : Result T OutError) : Type 0 where
  pub tells : now.tells ≡ before.tells
  pub steady : now.steady ≡ before.steady
  pub later : before.faults ≤ now.faults
  pub failed : IsErrOf result Failed → Rose before.faults now.faults
