use Rattle.query_lang.proofs.Texts.{term_is_text}
use Rattle.query_lang.proofs.reading.term_of.Goals as goal

pub returns-clause-text : goal.returns-clause-text
returns-clause-text c = rw (c.term.ensures, c.in_ok-field.ensures, c.in_ok-value.ensures) (term_is_text _ _ c.as_bytes.ensures.utf8 c.as_bytes-2.ensures.utf8)
