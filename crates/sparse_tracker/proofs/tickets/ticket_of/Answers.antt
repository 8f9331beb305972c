use Rattle.std.specs.Prelude.{◌==◌}
use Rattle.sparse_tracker.proofs.Finds.{found_at}
use Rattle.sparse_tracker.proofs.tickets.ticket_of.Goals as goal

pub returns : goal.returns
returns c = found_at (λ k. k.number == c.args.number) c.args.tickets.now c.find_ticket.result _ c.find_ticket.ensures.bound c.find_ticket.ensures.place
