use Rattle.std.proofs.Common.{ap, sym, ◌∙◌, Some, List}
use Rattle.std.specs.Prelude.{map}
use Rattle.serde_json.specs.Data.{Data}
use Rattle.serde_json.specs.View.{view}
use Rattle.mount_manifest.proofs.Json.{list_of-items_view, found_list}
use Rattle.mount_manifest.proofs.member.array_member.Goals as goal

pub returns-in-Some-as_array : goal.returns-in-Some-as_array
returns-in-Some-as_array c =
    let vs = c.in-Some-as_array.list.now.items in
    ap (λ (s : List _). Some (map view s)) c.as_slice.ensures.value
    ∙ ap (λ (s : List Data). Some s) (sym (list_of-items_view vs))
    ∙ sym (found_list c.args.key.now _ _ _ c.in-Some.ensures c.in-Some-as_array.ensures)
