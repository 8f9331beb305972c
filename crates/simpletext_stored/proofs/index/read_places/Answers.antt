use Rattle.simpletext_stored.proofs.Placed.{none_placed}
use Rattle.simpletext_stored.proofs.index.read_places.Goals as goal

pub read_lines-requires-clause-empty : goal.read_lines-requires-clause-empty
read_lines-requires-clause-empty g c = none_placed _ _ (c.new.ensures.state _) c.new.ensures.places
