-- What a door of a core tells is of the core.
use Rattle.std.proofs.Common.{◌≡◌, ◌∙◌, ℕ, subst, ap₂}
use Rattle.std.specs.Prelude.{Option}
use Rattle.cache_outside.specs.Sources.{SourceView}
use Rattle.cache_door.specs.Doors.{DoorView}
use Rattle.cache_door.specs.Cores.{CoreView, door_of}
use Rattle.cache_reader.specs.declared.report.Report.{Report}
use Rattle.cache_reader.specs.Going.{moment}
use Rattle.index_mounts.specs.Rosters.{MountView}
use Rattle.mount_script.specs.declared.command.Command.{Command}
use Rattle.mount_script.specs.declared.reply.Reply.{Reply}
use Rattle.script_run.specs.Lines.{Cached, LineDoes}
use Rattle.script_run.specs.MountLines.{MountDoes}
use Rattle.script_run.specs.Blocks.{seen}

carried : (P : DoorView → DoorView → Type 0) (v u w x : CoreView) (b d : ℕ) → P (door_of u b) (door_of x d) → u ≡ v → b ≡ 0 → x ≡ w → d ≡ b → P (door_of v 0) (door_of w 0)
carried P v u w x b d h same actor last on =
    let first : DoorView → Type 0 = λ y. P y (door_of x d) in
    let second : DoorView → Type 0 = λ y. P (door_of v 0) y in
    subst second (ap₂ door_of last (on ∙ actor)) (subst first (ap₂ door_of same actor) h)

pub mount_carried : (given : Reply) (v u w x : CoreView) (b d : ℕ) → MountDoes (door_of u b) (door_of x d) given → u ≡ v → b ≡ 0 → x ≡ w → d ≡ b → MountDoes (door_of v 0) (door_of w 0) given
mount_carried given = carried (λ (x y : DoorView). MountDoes x y given)

pub line_carried : (e : Cached) (now : ℕ) (c : Command) (m : Option MountView) (given : Reply) (report : Report) (s t : SourceView) (v u w x : CoreView) (b d : ℕ)
    → LineDoes e now c m given report (moment s (door_of u b)) (moment t (door_of x d)) → u ≡ v → b ≡ 0 → x ≡ w → d ≡ b → LineDoes e now c m given report (seen s v) (seen t w)
line_carried e now c m given report s t = carried (λ (x y : DoorView). LineDoes e now c m given report (moment s x) (moment t y))
