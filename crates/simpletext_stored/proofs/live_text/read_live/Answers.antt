use Rattle.simpletext_stored.proofs.Listed.{all_listed}
use Rattle.simpletext_stored.proofs.live_text.read_live.Goals as goal

pub returns-clause-documents : goal.returns-clause-documents
returns-clause-documents g c = λ t.
    let h = c.in_ok-whole.ensures.lines in
    all_listed _ _ h.past h.kept _ _ h.held (h.lines t)
