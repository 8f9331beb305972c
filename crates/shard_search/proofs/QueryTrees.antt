-- The tree of a query, form by form.
use Rattle.std.proofs.Common.{◌≡◌, ℕ, List, map, Option, ap, sym, ◌∙◌}
use Rattle.query_lang.specs.declared.query.Query.{Query}
use Rattle.query_lang.specs.declared.query.Query.TheFolds.{fold-roll-Query}
use Rattle.query_lang.specs.declared.query.Query.TheOpen.{Query-F}
use Rattle.query_lang.specs.declared.query.Query.TheVariants.{MatchAll, Term, Bool, rolls-MatchAll, rolls-Term, rolls-Bool}
use Rattle.query_lang.specs.Trees.{Tree, match_all, term, compound, tree_of, tree_step, trees_of}

pub match_all_is : tree_of MatchAll ≡ match_all
match_all_is = ap tree_of (sym rolls-MatchAll) ∙ fold-roll-Query Tree tree_step Query-F.MatchAll

pub term_is : (field value : List ℕ) → tree_of (Term field value) ≡ term field value
term_is field value = ap tree_of (sym (rolls-Term field value)) ∙ fold-roll-Query Tree tree_step (Query-F.Term field value)

pub bool_is : (must filter should must_not : List Query) (minimum : Option ℕ)
    → tree_of (Bool must filter should must_not minimum) ≡ compound (trees_of (map tree_of must)) (trees_of (map tree_of filter)) (trees_of (map tree_of should)) (trees_of (map tree_of must_not)) minimum
bool_is must filter should must_not minimum =
    ap tree_of (sym (rolls-Bool must filter should must_not minimum)) ∙ fold-roll-Query Tree tree_step (Query-F.Bool must filter should must_not minimum)
