use Rattle.mount_script.proofs.Joined.{join_first}
use Rattle.mount_script.proofs.words.joined.Goals as goal

pub loop-word-init : goal.loop-word-init
loop-word-init c = rw (c.in_ok-extend.ensures.ok, c.new-text.ensures) (join_first c.args.words.now _ c.in-len1-up.len_at_least)
