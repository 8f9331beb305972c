use Rattle.text_lines.proofs.Undone.{escape_undone}
use Rattle.text_lines.proofs.escapes.escape_is_undone.Goals as goal

pub returns : goal.returns
returns c = escape_undone
