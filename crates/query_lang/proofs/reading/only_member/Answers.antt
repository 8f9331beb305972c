use Rattle.std.proofs.Common.{ap, sym, ◌∙◌, Some}
use Rattle.serde_json.specs.View.{view}
use Rattle.query_lang.proofs.Only.{only_is, only_in, not_one, one}
use Rattle.query_lang.proofs.reading.only_member.Goals as goal

pub returns-then-len-ne1 : goal.returns-then-len-ne1
returns-then-len-ne1 c =
    sym (not_one c.in_ok-map.map.now.entries (λ h. c.if-len-ne1.true (c.len.ensures.len ∙ h)))
    ∙ ap only_in c.in_ok-map.ensures ∙ sym (only_is _)

pub returns : goal.returns
returns c =
    ap (λ k. Some (k, view c.in_ok-key.inner.now)) c.as_str.ensures.value
    ∙ sym (one c.in_ok-map.map.now.entries _ _ (sym c.len.ensures.len ∙ c.if-len-ne1.false) c.in_ok-key.ensures.first)
    ∙ ap only_in c.in_ok-map.ensures ∙ sym (only_is _)
