-- What the calls of a roster answer, and what they leave.
use Rattle.std.specs.Prelude.{ℕ, ◌≡◌, List, map, is_some, Result, Ok, Err, nat_le, if◌then◌else◌, Option, Some, None}
use Rattle.mount_manifest.specs.Manifest.{Facts}
use Rattle.blob_parts.specs.Tables.{TableParts}
use Rattle.index_mounts.specs.Rosters.{MountView, RosterView, mounted, with_mount}
use Rattle.index_mounts.specs.declared.roster.Mounted.{Mounted}
use Rattle.index_mounts.specs.declared.roster.RosterError.{RosterError}
use Rattle.index_mounts.specs.declared.roster.RosterError.TheVariants.{NameTaken, Full, NotMounted, NoMemory}

abbrev pub mount_view : {A : Type 0} → Mounted A → MountView
mount_view m = record { mount = m.mount; number = m.number; facts = m.manifest; parts = m.parts }

-- the roster of these entries
abbrev pub roster_view : {A : Type 0} → List (List ℕ × Mounted A) → ℕ → RosterView
roster_view entries made = record { mounts = map (λ e. (e.0, mount_view e.1)) entries; made = made }

-- whether a mount can be made under a name
abbrev pub check_of : List ℕ → RosterView → Result (Unit {0}) RosterError
check_of name r = if is_some (mounted name r) then Err NameTaken else if nat_le 4096 r.made then Err Full else Ok (tt {0})

-- an Ok gives the number of the mount that is made; a refusal leaves the roster
abbrev pub Mounts : List ℕ → ℕ → Facts → TableParts → RosterView → RosterView → Result ℕ RosterError → Type 0
Mounts name number facts parts before now (Ok mount) =
    (check_of name before ≡ Ok (tt {0})) × (mount ≡ before.made) × (now ≡ with_mount name number facts parts before)
Mounts name number facts parts before now (Err NoMemory) = now ≡ before
Mounts name number facts parts before now (Err e) = (check_of name before ≡ Err e) × (now ≡ before)

-- the number of the mount under a name
abbrev pub number_of : Option MountView → Result ℕ RosterError
number_of None = Err NotMounted
number_of (Some m) = Ok m.mount
