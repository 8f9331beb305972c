use Rattle.std.proofs.Common.{rules, ◌≡◌, ◌∙◌, List, Bool, false, Option, None, replicate, sym, subst, ap}
use Rattle.blob_parts.specs.Content.{content}
use Rattle.region_cell.specs.Cells.{CellView}
use Rattle.cache_door.specs.declared.hold.Hold.{Hold}
use Rattle.cache_door.specs.Cores.{core_view, state_of, all_steady, all_faults, IsKept}
use Rattle.cache_door.proofs.Made.{made_kept, made_state, over_steady, over_faults}
use Rattle.cache_door.proofs.cache.Core.new.Goals as goal

pub invariant_of-result : goal.invariant_of-result
invariant_of-result g c =
    let config = c.args.config.now in
    let p = c.in_ok-policy.policy in
    let made = c.in_ok-cells_over.field-0.items in
    let holds : c.in_ok-vec.field-0.items ≡ replicate {A = Option Hold} c.args.actors None = c.in_ok-vec.ensures.items_if_clones_equal (λ y h. search rules) in
    let gone : c.in_ok-vec-2.field-0.items ≡ replicate 4096 false = c.in_ok-vec-2.ensures.items_if_clones_equal (λ y h. search rules) in
    let P : List (Option Hold) → Type 0 = λ h. IsKept g.A.Archive.tells (content g.A.Archive.blobs) (core_view config p made h c.in_ok-vec-2.field-0.items c.new-2.result) in
    let Q : List Bool → Type 0 = λ l. IsKept g.A.Archive.tells (content g.A.Archive.blobs) (core_view config p made (replicate c.args.actors None) l c.new-2.result) in
    subst P (sym holds) (subst Q (sym gone) (
    made_kept g.F.Frame.view config c.new-2.result c.args.actors c.args.frames.items c.requires.config c.requires.count c.requires.sizes c.requires.actors
    p made c.in_ok-policy.ensures c.lesson.ensures.good c.in_ok-cells_over.ensures.cells c.in_ok-cells_over.ensures.good))

pub returns-clause-state : goal.returns-clause-state
returns-clause-state g c =
    let config = c.args.config.now in
    let p = c.in_ok-policy.policy in
    let made = c.in_ok-cells_over.field-0.items in
    let holds : c.in_ok-vec.field-0.items ≡ replicate {A = Option Hold} c.args.actors None = c.in_ok-vec.ensures.items_if_clones_equal (λ y h. search rules) in
    let gone : c.in_ok-vec-2.field-0.items ≡ replicate 4096 false = c.in_ok-vec-2.ensures.items_if_clones_equal (λ y h. search rules) in
    ap (λ (h : List (Option Hold)). state_of (core_view config p made h c.in_ok-vec-2.field-0.items c.new-2.result)) holds
    ∙ ap (λ (l : List Bool). state_of (core_view config p made (replicate c.args.actors None) l c.new-2.result)) gone
    ∙ made_state g.F.Frame.view config p c.new-2.result c.args.actors c.args.frames.items made c.in_ok-policy.ensures c.in_ok-cells_over.ensures.cells c.requires.sizes

pub returns-clause-steady : goal.returns-clause-steady
returns-clause-steady g c =
    ap (λ (l : List CellView). all_steady l) c.in_ok-cells_over.ensures.cells
    ∙ over_steady g.F.Frame.view c.args.config.now.range c.args.frames.items

pub returns-clause-faults : goal.returns-clause-faults
returns-clause-faults g c =
    ap (λ (l : List CellView). all_faults l) c.in_ok-cells_over.ensures.cells
    ∙ over_faults g.F.Frame.view c.args.config.now.range c.args.frames.items
