-- What a `mount` line answers, and what it makes of the roster and the door.
use Rattle.std.specs.Prelude.{ℕ, ◌≡◌, List, Bool, IsTrue, Option, Some, None, Ok}
use Rattle.cache_outside.specs.Listing.{Listing, manifest_number}
use Rattle.mount_manifest.specs.Manifest.{Facts}
use Rattle.blob_parts.specs.Tables.{TableParts}
use Rattle.index_mounts.specs.Rosters.{RosterView, IsResolved, with_mount}
use Rattle.index_mounts.specs.Calls.{check_of}
use Rattle.cache_door.specs.Doors.{DoorView, Works, no_work}
use Rattle.mount_script.specs.declared.reply.Reply.{Reply}
use Rattle.mount_script.specs.declared.reply.Reply.TheVariants as reply
use Rattle.shard_replies.specs.ExpectedReplies.{mount_reply}
use Rattle.script_run.specs.Lines.{IsOrNoMemory}
use Rattle.script_run.specs.Mounting.{mounts_of}

-- a refusal, or want of memory
abbrev pub IsRefusal : Reply → Type 0
IsRefusal (reply.Refused text) = Unit {0}
IsRefusal reply.NoMemory = Unit {0}
IsRefusal _ = ⊥

-- whether a mount can be made under a name, or the reply that refuses it, whatever the manifest
abbrev pub Taken : List ℕ → RosterView → Option Reply → Type 0
Taken name r None = check_of name r ≡ Ok (tt {0})
Taken name r (Some given) = IsRefusal given × ((blobs : Listing) (manifest : List ℕ) → IsOrNoMemory (mount_reply blobs (mounts_of r) name manifest) given)

-- the replies of a mount line, whatever the archive tells
abbrev pub MountKind : Reply → Type 0
MountKind (reply.Mounted files docs) = Unit {0}
MountKind (reply.Refused text) = Unit {0}
MountKind reply.Fault = Unit {0}
MountKind reply.NoMemory = Unit {0}
MountKind _ = ⊥

-- a roster with one mount more, of the archive's manifest with this name
pub record MountsOne (tells : Bool) (blobs : Listing) (name manifest : List ℕ) (before now : RosterView) : Type 0 where
  pub number : ℕ
  pub facts : Facts
  pub parts : TableParts
  pub made : now ≡ with_mount name number facts parts before
  pub found : IsTrue tells → manifest_number manifest blobs ≡ Some number
  pub resolved : IsResolved tells blobs number facts parts

-- the roster gets a mount exactly where the line says so
abbrev pub RosterGoes : Bool → Listing → List ℕ → List ℕ → RosterView → RosterView → Reply → Type 0
RosterGoes tells blobs name manifest before now (reply.Mounted files docs) = MountsOne tells blobs name manifest before now
RosterGoes tells blobs name manifest before now given = now ≡ before

-- a door that was told of a mount in use
pub record IsLive (before now : DoorView) : Type 0 where
  pub hold : now.hold ≡ before.hold
  pub work : Works before.work now.work no_work
  pub unmounted : now.unmounted ≡ before.unmounted
  pub state : now.state ≡ before.state

-- the door is told of the mount that was made, and else not asked
abbrev pub MountDoes : DoorView → DoorView → Reply → Type 0
MountDoes before now (reply.Mounted files docs) = IsLive before now
MountDoes before now given = now ≡ before

-- a mount was made, or memory wanted
pub record AddsMount (tells : Bool) (blobs : Listing) (name : List ℕ) (number : ℕ) (facts : Facts) (parts : TableParts) (before now : RosterView) (x y : DoorView) : Type 0 where
  pub roster : now ≡ with_mount name number facts parts before
  pub resolved : IsResolved tells blobs number facts parts
  pub door : IsLive x y

abbrev pub MayAdd : Bool → Listing → List ℕ → ℕ → Facts → TableParts → RosterView → RosterView → DoorView → DoorView → Reply → Type 0
MayAdd tells blobs name number facts parts before now x y (reply.Mounted files docs) = AddsMount tells blobs name number facts parts before now x y
MayAdd tells blobs name number facts parts before now x y given = (now ≡ before) × (y ≡ x)
