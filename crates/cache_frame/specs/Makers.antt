-- Frames in memory and their maker, some of whose frames it fails to make.
use Rattle.std.specs.Prelude.{ℕ, Bool, true, List, length, ◌==◌}
use Rattle.std.specs.List.{list_any}
use Rattle.cache_outside.specs.Frames.{FrameView, MakerView}

-- a frame in memory that holds these bytes: it tells them, and never fails
abbrev pub frame_of : List ℕ → FrameView
frame_of bytes = record { size = length bytes; tells = true; steady = true; faults = 0; bytes = bytes }

-- the indexes of the frames that are not made, and how often one was asked for
pub record MemMakerView : Type 0 where
  pub fails : List ℕ
  pub faults : ℕ

-- a maker of frames in memory with this count of failures
abbrev pub maker_of : ℕ → MakerView
maker_of faults = record { faults = faults; tells = true; steady = true }

abbrev pub is_listed : ℕ → List ℕ → Bool
is_listed index indexes = list_any (λ k. k == index) indexes
