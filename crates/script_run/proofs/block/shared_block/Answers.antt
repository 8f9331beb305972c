use Rattle.std.proofs.Common.{◌∙◌, ap, inl, length}
use Rattle.script_run.proofs.Blocks.{shared_ran, kinds_no_stats, kinds_length}
use Rattle.script_run.proofs.KeptShelves.{fits_forgotten}
use Rattle.script_run.proofs.block.shared_block.Goals as goal

pub forget-requires : goal.forget-requires
forget-requires g c = ap length c.deref.ensures.value ∙ kinds_length c.args.roster.now c.args.block.now c.run_lines.new.replies.items c.run_lines.ensures.ran.kinds

pub returns-clause-ran : goal.returns-clause-ran
returns-clause-ran g c =
    shared_ran _ c.args.roster.now c.forget.new.roster c.args.block.now c.run_lines.new.replies.items _ _ _ _ c.requires.shared c.run_lines.ensures.ran (rw c.deref.ensures.value at c.forget.ensures)

pub returns-clause-stats : goal.returns-clause-stats
returns-clause-stats g c = kinds_no_stats c.args.roster.now c.args.block.now c.run_lines.new.replies.items c.requires.shared c.run_lines.ensures.ran.kinds

pub returns-clause-shelves : goal.returns-clause-shelves
returns-clause-shelves g c =
    fits_forgotten _ _ c.args.block.now c.run_lines.new.replies.items c.args.roster.now c.forget.new.roster c.run_lines.new.shelves (rw c.deref.ensures.value at c.forget.ensures) c.run_lines.ensures.shelves

pub returns-clause-went : goal.returns-clause-went
returns-clause-went g c = inl (record {
  shared = c.requires.shared;
  kept = c.lesson.ensures;
  lines = c.run_lines.ensures.went;
  forgotten = rw c.deref.ensures.value at c.forget.ensures;
  stats = kinds_no_stats c.args.roster.now c.args.block.now c.run_lines.new.replies.items c.requires.shared c.run_lines.ensures.ran.kinds;
})
