use Rattle.std.proofs.Common.{◌∙◌}
use Rattle.sparse_tracker.proofs.Finds.{without_ticket_at}
use Rattle.sparse_tracker.proofs.tickets.drop_ticket.Goals as goal

pub returns-clause-items : goal.returns-clause-items
returns-clause-items c =
    let b = rw c.deref.ensures.value at c.find_ticket-at.ensures.bound in
    let p = rw c.deref.ensures.value at c.find_ticket-at.ensures.place in
    c.remove.ensures.items ∙ without_ticket_at c.args.number c.find_ticket-at.result c.args.tickets.now.items b p
