use Rattle.std.proofs.Common.{sym}
use Rattle.byte_text.proofs.Names.{name_utf8}
use Rattle.byte_text.proofs.name.Name.read.Goals as goal

pub returns-in-Err : goal.returns-in-Err
returns-in-Err c = absurd (c.in-Err.ensures.cases.0 (name_utf8 _ (sym c.if-not-is_name.ensures)))
