use Rattle.std.proofs.Common.{arith, refl, ap, ◌∙◌, ◌≡◌, ◌≤◌, length, List, ℕ, Some}
use Rattle.std.specs.Option.{option_copied}
use Rattle.simpletext_postings.specs.Postings.{postings}
use Rattle.simpletext_postings.specs.Written.{rows_lines, row_lines, written}
use Rattle.simpletext_postings.proofs.Stepped.{one_more, closed, kept_by}
use Rattle.simpletext_postings.proofs.WrittenText.{read_again}
use Rattle.simpletext_postings.proofs.writing.write.Goals as goal

pub loop-i-preserved : goal.loop-i-preserved
loop-i-preserved c =
    let before = option_copied c.loop-i.before in
    let row = c.get-row.result.now in (
      one_more (rows_lines before) (rows_lines (Some row)) (row_lines before row) c.args.rows.now.rows c.loop-i.i row c.loop-i.text c.push_row.new.text _
          (λ ys. refl) c.get-row.ensures.row c.loop-i.invariant.0 c.in_ok-push_row.ensures,
      λ h. c.get-row.ensures.allowed,
    )

pub returns-clause-text : goal.returns-clause-text
returns-clause-text c =
    let all : length c.args.rows.now.rows ≤ c.loop-i.i = omega arith in
    c.in_ok-extend.ensures.ok ∙ closed (option_copied c.loop-i.before) c.args.rows.now.rows c.loop-i.i c.loop-i.text all c.loop-i.invariant.0

pub returns-clause-reads_back : goal.returns-clause-reads_back
returns-clause-reads_back c =
    let all : length c.args.rows.now.rows ≤ c.loop-i.i = omega arith in
    let text : c.extend.new.self ≡ written c.args.rows.now.rows =
    c.in_ok-extend.ensures.ok ∙ closed (option_copied c.loop-i.before) c.args.rows.now.rows c.loop-i.i c.loop-i.text all c.loop-i.invariant.0 in
    ap (λ (t : List ℕ). postings t c.args.rows.now.docs) text
    ∙ read_again c.args.rows.now.docs c.args.rows.now.rows (kept_by c.args.rows.now.docs c.args.rows.now.rows c.loop-i.i all c.loop-i.invariant.1)
