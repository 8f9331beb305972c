-- What a worker's job keeps.
use Rattle.std.specs.Prelude.{◌≡◌, List, Option, Some, None, All}
use Rattle.cache_door.specs.Doors.{hold_view, nothing}
use Rattle.cache_table.specs.Views.{CacheView, PassView, IsOf}

-- a pass of this cache that holds nothing
abbrev pub IsIdle : CacheView → PassView → Type 0
IsIdle c p = IsOf c p × (hold_view p.view.hold ≡ nothing)

-- such a pass, or none
abbrev pub HasIdle : CacheView → Option PassView → Type 0
HasIdle c None = Unit {0}
HasIdle c (Some p) = IsIdle c p

-- each job has such a pass, or none
abbrev pub AllIdle : {J : Type 0} → List J → (J → Option PassView) → CacheView → Type 0
AllIdle jobs pass c = All (λ j. HasIdle c (pass j)) jobs
