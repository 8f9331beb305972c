-- A printed text is read as its query.
use Rattle.std.proofs.Common.{◌≡◌, ℕ, List, ◌≤◌, Some, ap, ◌∙◌, arith}
use Rattle.std.specs.Prelude.{IsUtf8, Ok}
use Rattle.std.proofs.lemmas.Bool.{le-leb}
use Rattle.serde_json.specs.Data.{Data, depth}
use Rattle.serde_json.specs.Read.{read, max_depth}
use Rattle.query_lang.specs.Trees.{Tree}
use Rattle.query_lang.specs.Trees as tree
use Rattle.query_lang.specs.Reading.{query, query_from, shallow}
use Rattle.query_lang.specs.Printing.{data_of}
use Rattle.mount_manifest.proofs.Json.{json_of-Some}
use Rattle.query_lang.proofs.Printed.{printed_is_read}
use Rattle.query_lang.proofs.Sizes.{data_depth}

pub read_back : (text : List ℕ) (q : Tree) (v : Data) → IsUtf8 text → v ≡ data_of q → (depth v ≤ max_depth → read text ≡ Some v) → tree.depth q ≤ 32 → query text ≡ Ok q
read_back text q v u is back small =
    let within : depth v ≤ 127 = rw is (omega (arith, data_depth q, small)) in
    ap query_from (json_of-Some text v u (back within) ∙ ap Some is)
    ∙ ap shallow (printed_is_read q)
    ∙ rw (le-leb (tree.depth q) 32 small)
