use Rattle.std.specs.Prelude.{◌&&◌}
use Rattle.std.proofs.Common.{Bool, subst, ◌≡◌, ◌+◌, ◌∙◌, rules, refl, sym, ap, take, ◌++◌, ◌∷◌, []}
use Rattle.std.proofs.lemmas.List.{take_more}
use Rattle.mount_script.specs.declared.command.Line.{Line}
use Rattle.script_run.specs.Shelves.{ShelvesFit}
use Rattle.script_run.proofs.Blocks.{shared_at, line_ran, ran_as}
use Rattle.script_run.proofs.Steps.{lines_more, lines_as}
use Rattle.script_run.proofs.block.run_lines.Goals as goal

pub core_line-answer-requires-clause-shared : goal.core_line-answer-requires-clause-shared
core_line-answer-requires-clause-shared g c = shared_at c.args.block.now c.loop-line.line-index c.line-item.result c.requires.shared c.loop-line-test.true c.line-item.is

pub core_line-answer-requires-clause-shelves : goal.core_line-answer-requires-clause-shelves
core_line-answer-requires-clause-shelves g c =
    subst (λ (f : Bool). ShelvesFit (g.A.Archive.tells && f) g.A.Archive.blobs c.args.roster.now c.loop-line.shelves) (sym c.loop-line.invariant.ran.core.tell) c.loop-line.invariant.shelves

pub loop-line-preserved : goal.loop-line-preserved
loop-line-preserved g c =
    let i = c.loop-line.line-index in
    let ls = c.args.block.now in
    let l = c.line-item.result in
    let answer = c.core_line-answer.result in
    let told = c.core_line-answer.ensures in
    let shared = shared_at ls i l c.requires.shared c.loop-line-test.true c.line-item.is in
    let next : take (i + 1) ls ≡ take i ls ++ l ∷ [] = take_more ls i l c.loop-line-test.true ∙ ap (λ (m : Line). take i ls ++ m ∷ []) (sym c.line-item.is) in
    let ran = line_ran g.A.Archive.tells _ g.A.Archive.blobs _ c.args.roster.now c.lesson.ensures ls (take i ls) c.loop-line.replies.items _ _ _ c.args.core.now c.loop-line.core _ c.args.config.now c.args.now l answer.reply answer.report refl shared
    c.loop-line.invariant.ran told.reply told.mark told.kind told.later told.idle told.source told.does in
    record {
      ran = ran_as _ _ ls (take i ls ++ l ∷ []) (take (i + 1) ls) _ _ _ _ _ _ next c.put.ensures.items ran;
      shelves = subst (λ (f : Bool). ShelvesFit (g.A.Archive.tells && f) g.A.Archive.blobs c.args.roster.now c.core_line-answer.new.shelves) c.loop-line.invariant.ran.core.tell told.shelves;
      went = lines_as _ _ _ (take i ls ++ l ∷ []) (take (i + 1) ls) _ _ _ _ next c.put.ensures.items
          (lines_more _ _ _ (take i ls) c.loop-line.replies.items l answer.reply _ _ _ c.loop-line.invariant.went
          (record { report = answer.report; does = told.does; faults = told.source.later; core = told.later; sums = c.add.ensures.sums; below = c.add.ensures.below }));
      sums = search rules;
      len = search rules;
      room = search rules;
    }
