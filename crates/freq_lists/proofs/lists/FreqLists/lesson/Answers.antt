use Rattle.freq_lists.proofs.Walks.{short}
use Rattle.freq_lists.proofs.lists.FreqLists.lesson.Goals as goal

pub returns-clause-short : goal.returns-clause-short
returns-clause-short c k = let f = c.self.inside in rw (← c.self.view_is) (short f.nodes.items f.ends.items _ c.self.invariant k)
