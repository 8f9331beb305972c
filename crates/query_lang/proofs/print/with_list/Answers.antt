use Rattle.std.proofs.Common.{◌∙◌}
use Rattle.serde_json.specs.View.{members_view}
use Rattle.query_lang.proofs.Items.{put_some}
use Rattle.query_lang.proofs.print.with_list.Goals as goal

pub returns : goal.returns
returns c = rw (put_some c.args.key.now c.args.list.items (members_view c.args.members.now.entries) (λ h. c.if-len-eq0.false (c.len.ensures ∙ c.args.list.ok.0 ∙ h))) (rw c.array_of.ensures at c.put.ensures.ok)
