use Rattle.directory_input.proofs.Later.{files_same}
use Rattle.shard_search.proofs.Shelves.{no_more}
use Rattle.shard_search.proofs.shelf.Shelf.keep.Goals as goal

pub returns-in_err-reach-clause-more : goal.returns-in_err-reach-clause-more
returns-in_err-reach-clause-more g c = no_more (λ i. let same = c.reach.ensures.same i in cc) (files_same _) c.requires.kept

pub returns-then-has-clause-more : goal.returns-then-has-clause-more
returns-then-has-clause-more g c = no_more (λ i. let same = c.reach.ensures.same i in cc) (files_same _) c.requires.kept
