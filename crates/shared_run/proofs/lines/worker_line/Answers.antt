use Rattle.std.proofs.Common.{◌≡◌, true, refl, rules}
use Rattle.std.specs.Prelude.{codes}
use Rattle.cache_reader.specs.Going.{moment}
use Rattle.cache_reader.specs.Reports.{no_bytes}
use Rattle.script_run.specs.Lines.{is_shared}
use Rattle.shared_run.proofs.LinesDone.{line_works, refused_works}
use Rattle.shared_run.proofs.lines.worker_line.Goals as goal

pub returns-then-matches-clause-works : goal.returns-then-matches-clause-works
returns-then-matches-clause-works g c =
    let x = moment (g.S.BlobSource.view c.args.source.now) (g.D.CacheDoor.view c.args.door.now) in
    refused_works g.A.Archive.tells g.A.Archive.blobs c.args.config.now c.args.roster.now c.args.now no_bytes x x c.args.command.now (codes "refused stats") c.refused_stats.result c.refused_stats.ensures refl

pub returns-clause-works : goal.returns-clause-works
returns-clause-works g c =
    let shared : is_shared c.args.command.now ≡ true = search rules in
    line_works g.A.Archive.tells g.A.Archive.blobs c.args.config.now c.args.roster.now c.args.now c.run_line-answer.result.report
    (moment (g.S.BlobSource.view c.args.source.now) (g.D.CacheDoor.view c.args.door.now)) (moment (g.S.BlobSource.view c.run_line-answer.new.source) (g.D.CacheDoor.view c.run_line-answer.new.door))
    c.args.command.now _ c.run_line-answer.result.reply shared refl c.run_line-answer.ensures.kind c.run_line-answer.ensures.does
