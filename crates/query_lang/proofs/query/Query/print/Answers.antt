use Rattle.std.proofs.Common.{◌∙◌, ap}
use Rattle.std.proofs.lemmas.Str.{IsUtf8-string_bytes}
use Rattle.serde_json.specs.Written.{compact_text}
use Rattle.query_lang.proofs.Sizes.{data_float}
use Rattle.query_lang.specs.Trees.{tree_of}
use Rattle.query_lang.proofs.Back.{read_back}
use Rattle.query_lang.proofs.query.Query.print.Goals as goal

pub returns-clause-text : goal.returns-clause-text
returns-clause-text c =
    c.text_of_string.ensures ∙ c.in_ok-text.ensures.text (rw c.in_ok-value.ensures (data_float (tree_of c.args.self.now))) ∙ ap compact_text c.in_ok-value.ensures

pub returns-clause-reads_back : goal.returns-clause-reads_back
returns-clause-reads_back c small =
    rw c.text_of_string.ensures (read_back _ (tree_of c.args.self.now) _ (IsUtf8-string_bytes c.in_ok-text.text) c.in_ok-value.ensures c.in_ok-text.ensures.reads_back small)
