use Rattle.cache_reader.proofs.Ends.{partly_none}
use Rattle.cache_reader.proofs.Joins.{took_none}
use Rattle.cache_reader.proofs.Rooms.{policy_same}
use Rattle.cache_reader.proofs.filling.fill_gap.Goals as goal

pub returns-in-None-clause-partly : goal.returns-in-None-clause-partly
returns-in-None-clause-partly g c = rw c.in-None.is (partly_none _ _ _ _)

pub returns-in-None-clause-kept : goal.returns-in-None-clause-kept
returns-in-None-clause-kept g c = policy_same _

pub returns-in-None-clause-stored : goal.returns-in-None-clause-stored
returns-in-None-clause-stored g c is told s e = rw c.in-None.is e

pub returns-in-None-clause-took : goal.returns-in-None-clause-took
returns-in-None-clause-took g c is told = rw c.in-None.is (took_none _)
