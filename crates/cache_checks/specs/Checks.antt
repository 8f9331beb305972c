-- What the tests say of a frame that fails, of a core, and of what is wanted.
use Rattle.std.specs.Prelude.{◌≡◌, ◌+◌, ◌*◌, ℕ, true, false, List, length}
use Rattle.region_ranges.specs.declared.keys.Config.{Config}
use Rattle.cache_outside.specs.Frames.{FrameView}
use Rattle.cache_door.specs.declared.answers.Want.{Want}
use Rattle.cache_door.specs.Cores.{CoreView}

abbrev pub faulty_view : List ℕ → ℕ → FrameView
faulty_view bytes faults = record { size = length bytes; tells = true; steady = false; faults = faults; bytes = bytes }

-- a core of two actors with these settings
abbrev pub IsCore : Config → CoreView → Type 0
IsCore config core = (core.config ≡ config) × (length core.holds ≡ 2)

-- what is wanted is of the first file of this manifest, and begins at this place of the file
abbrev pub IsOfPart : ℕ → ℕ → ℕ → Want → Type 0
IsOfPart manifest size start want = (want.key.manifest ≡ manifest) × (want.key.file ≡ 0) × (want.key.region * size + want.sub.start ≡ start)
