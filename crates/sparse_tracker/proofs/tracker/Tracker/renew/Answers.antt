use Rattle.std.proofs.Common.{◌≡◌, ◌∙◌, ap, []}
use Rattle.sparse_tracker.specs.ByteStates.{TrackerView}
use Rattle.sparse_tracker.proofs.Stores.{viewed, renewed}
use Rattle.sparse_tracker.proofs.tracker.Tracker.renew.Goals as goal

pub returns : goal.returns
returns c =
    let t = c.self.inside in
    let gaps : t.gaps.items ≡ [] = ap (λ (v : TrackerView). v.tracker.gaps) c.self.view_is ∙ c.requires.gaps in
    let tickets : t.tickets.items ≡ [] = ap (λ (v : TrackerView). v.tracker.tickets) c.self.view_is ∙ c.requires.tickets in
    rw (← c.self.view_is, c.clear.ensures, gaps, tickets) (ap (viewed t.first_len t.spare) (renewed c.args.len))
