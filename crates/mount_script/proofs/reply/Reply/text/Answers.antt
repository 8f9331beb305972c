use Rattle.mount_script.proofs.reply.Reply.text.Goals as goal

pub returns-in-Stats : goal.returns-in-Stats
returns-in-Stats c =
    let numbers = rw (c.from.ensures, c.from-in-Stats.ensures, c.from-in-Stats-2.ensures) at c.counters.ensures in
    rw c.in-Stats.is (record { text = numbers })
