use Rattle.std.proofs.Common.{ap, sym, ◌∙◌, Some}
use Rattle.query_lang.proofs.Only.{empty_is, empty_in, no_entries, some_entries}
use Rattle.query_lang.proofs.reading.empty_query.Goals as goal

pub returns-then-len-ne0 : goal.returns-then-len-ne0
returns-then-len-ne0 c =
    sym (some_entries c.in_ok-map.map.now.entries (λ h. c.if-len-ne0.true (c.len.ensures.len ∙ h)))
    ∙ ap empty_in c.in_ok-map.ensures ∙ sym (empty_is _)

pub returns : goal.returns
returns c =
    ap Some c.match_all.ensures ∙ sym (no_entries c.in_ok-map.map.now.entries (sym c.len.ensures.len ∙ c.if-len-ne0.false))
    ∙ ap empty_in c.in_ok-map.ensures ∙ sym (empty_is _)
