-- What is dealt to the workers of a block before they begin.
use Rattle.std.specs.Prelude.{ℕ, ◌≡◌, ◌≤◌, ◌-◌, ◌+◌, List, [], ◌∷◌, length, vec_len, vec_capacity, Vec, Option, Some, None}
use Rattle.cache_door.specs.Doors.{no_work}
use Rattle.cache_table.specs.Plays.{right}
use Rattle.cache_table.specs.Views.{CacheView, PassView}
use Rattle.mount_script.specs.declared.command.Line.{Line}
use Rattle.mount_script.specs.declared.reply.Reply.{Reply}
use Rattle.shared_run.specs.Shares.{share}
use Rattle.shared_run.specs.Workers.{IsIdle}

-- Lists without an element, worker i's first, each with room for a reply to each line of its worker.
abbrev pub AreRooms : {Z : Type 0} → ℕ → ℕ → List Line → List (Vec Reply Z) → Type 0
AreRooms workers i block [] = Unit {0}
AreRooms workers i block (v ∷ vs) = (v.items ≡ []) × (vec_len v ≡ 0) × (length (share workers i 0 block) ≤ vec_capacity v) × AreRooms workers (i + 1) block vs

-- a pass without n of its shares
abbrev pub without_shares : ℕ → PassView → PassView
without_shares n p = record { id = p.id; view = record p.view { shares = p.view.shares - n }; work = p.work }

-- a new pass with one of another's shares: it holds nothing, has seen gone what the other has, and counts from 0
pub record IsShare (c : CacheView) (from p : PassView) : Type 0 where
  pub idle : IsIdle c p
  pub view : p.view ≡ right from.view
  pub work : p.work ≡ no_work

-- there is such a pass
abbrev pub IsDealt : CacheView → PassView → Option PassView → Type 0
IsDealt c from None = ⊥
IsDealt c from (Some p) = IsShare c from p

abbrev pub AllDealt : CacheView → PassView → List (Option PassView) → Type 0
AllDealt c from [] = Unit {0}
AllDealt c from (o ∷ os) = IsDealt c from o × AllDealt c from os
