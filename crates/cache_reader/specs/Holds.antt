-- The hold of an actor whose bytes did not fail.
use Rattle.std.specs.Prelude.{◌≡◌, ℕ, false, slice_get, Some}
use Rattle.sparse_tracker.specs.declared.tickets.Ticket.{Ticket}
use Rattle.cache_door.specs.declared.hold.Hold.{Hold}
use Rattle.cache_door.specs.Machine.{State, cell_at, hold_at}

-- An actor holds a region, and the ticket of its hold in the cell is not failed.
pub record Unfailed (a : ℕ) (s : State) : Type 0 where
  pub hold : Hold
  pub held : hold_at s a ≡ Some hold
  pub place : ℕ
  pub ticket : Ticket
  pub there : slice_get (cell_at s hold.region).region.tracker.tickets place ≡ Some ticket
  pub number : ticket.number ≡ hold.ticket
  pub start : ticket.start ≡ hold.sub.start
  pub end : ticket.end ≡ hold.sub.end
  pub unfailed : ticket.failed ≡ false
