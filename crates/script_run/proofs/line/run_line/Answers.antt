use Rattle.std.proofs.Common.{refl}
use Rattle.shard_replies.specs.ExpectedReplies.{used_name}
use Rattle.script_run.proofs.KeptShelves.{fits_own, fits_taken, fits_put}
use Rattle.script_run.proofs.line.run_line.Goals as goal

pub shelf_line-answer-requires-clause-shelf : goal.shelf_line-answer-requires-clause-shelf
shelf_line-answer-requires-clause-shelf g c =
    fits_own _ g.A.Archive.blobs c.args.roster.now (used_name c.args.command.now) c.in-Some.mount c.take-shelf.result c.args.shelves.now c.requires.shelves (c.in-Some.ensures c.in-Some.mount refl) c.take-shelf.ensures.shelf

pub returns-then-matches-clause-shelves : goal.returns-then-matches-clause-shelves
returns-then-matches-clause-shelves g c =
    fits_taken _ g.A.Archive.blobs c.args.roster.now c.in-Some.mount c.args.shelves.now c.take-shelf.new.self c.requires.shelves c.take-shelf.ensures.left

pub returns-clause-shelves : goal.returns-clause-shelves
returns-clause-shelves g c =
    fits_put _ g.A.Archive.tells g.A.Archive.blobs c.args.roster.now (used_name c.args.command.now) c.in-Some.mount c.shelf_line-answer.new.shelf c.args.shelves.now c.take-shelf.new.self c.put.new.self
    c.lesson.ensures c.requires.shelves (c.in-Some.ensures c.in-Some.mount refl) c.take-shelf.ensures.left c.shelf_line-answer.ensures.shelf c.put.ensures
