use Rattle.std.proofs.Common.{◌≡◌, ◌∙◌, ◌≤◌, length, sym, ap, subst, Ok}
use Rattle.simpletext_postings.specs.Postings.{postings}
use Rattle.simpletext_postings.specs.Written.{written}
use Rattle.shard_maker.specs.MadeRows.{made_rows}
use Rattle.shard_maker.specs.Searches.{script_from}
use Rattle.shard_maker.proofs.Sizes.{text_short}
use Rattle.shard_maker.proofs.archive.make.Goals as goal

pub made_blobs-requires-clause-size : goal.made_blobs-requires-clause-size
made_blobs-requires-clause-size c =
    let is : c.in_ok-text.text ≡ written (made_rows c.args.seed c.args.docs c.args.terms) = c.in_ok-text.ensures.text ∙ ap written c.in_ok-rows.ensures.rows in
    subst (λ t. length t ≤ 4294967296) (sym is) (text_short c.args.seed c.args.docs c.args.terms c.requires)

pub returns-clause-archive : goal.returns-clause-archive
returns-clause-archive c = record {
  text = c.in_ok-text.text;
  rows = ap (postings c.in_ok-text.text) (sym c.in_ok-rows.ensures.docs) ∙ c.in_ok-text.ensures.reads_back ∙ ap Ok c.in_ok-rows.ensures.rows;
  made = c.in_ok-blobs.ensures;
}

pub returns-clause-postings : goal.returns-clause-postings
returns-clause-postings c = c.len.ensures ∙ ap length c.in_ok-rows.ensures.rows

pub returns-clause-script : goal.returns-clause-script
returns-clause-script c = c.in_ok-script.ensures ∙ ap (λ from. Ok (script_from from c.args.terms)) c.in_ok-rows.ensures.state
