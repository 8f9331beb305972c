use Rattle.std.proofs.Common.{◌≡◌, ◌∙◌, ℕ, List, true, ap, sym}
use Rattle.std.specs.Prelude.{option_map}
use Rattle.cache_door.specs.Doors.{storing}
use Rattle.cache_reader.proofs.Rooms.{policy_same}
use Rattle.cache_reader.proofs.States.{stored_kept, on_ok}
use Rattle.cache_reader.proofs.filling.store_piece.Goals as goal

pub returns-in_err-piece-clause-kept : goal.returns-in_err-piece-clause-kept
returns-in_err-piece-clause-kept g c = policy_same _

pub returns-clause-kept : goal.returns-clause-kept
returns-clause-kept g c = stored_kept c.store.result _ _ _ _ c.store.ensures.state c.store.ensures.same

pub returns-clause-stored : goal.returns-clause-stored
returns-clause-stored g c is told =
    let all : c.is_ok.result ≡ true = (cc) in
    let a = (g.D.CacheDoor.view c.args.door.now).actor in
    on_ok c.store.result _ c.store.ensures.state (sym c.is_ok.ensures.value ∙ all)
    ∙ ap (λ (l : List ℕ). option_map (storing l a) (g.D.CacheDoor.view c.args.door.now).state) (c.in_ok-piece.ensures.bytes told)
