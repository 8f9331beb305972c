-- The workers' shares, one more.
use Rattle.std.proofs.Common.{◌≡◌, ◌∙◌, ◌+◌, ◌++◌, ℕ, List, [], ◌∷◌, ap, sym, subst, refl, arith}
use Rattle.std.specs.Prelude.{Option, Some, None}
use Rattle.std.proofs.lemmas.List.{append_assoc, append-nil}
use Rattle.cache_reader.specs.Reports.{Grew}
use Rattle.cache_reader.specs.Through.{grew_more}
use Rattle.cache_table.specs.Views.{PassView}
use Rattle.shared_run.specs.Gathered.{JoinedWith, sum_of, lists_of, JoinedAll}
use Rattle.shared_run.proofs.LinesDone.{grew_by, same_grew}

sum_more : (f : PassView → ℕ) (os : List (Option PassView)) (q : PassView) → sum_of f (os ++ Some q ∷ []) ≡ sum_of f os + f q
sum_more f [] q = omega arith
sum_more f (None ∷ os) q = sum_more f os q
sum_more f (Some p ∷ os) q = let h = sum_more f os q in omega (arith, h)

lists_more : (f : PassView → List ℕ) (os : List (Option PassView)) (q : PassView) → lists_of f (os ++ Some q ∷ []) ≡ lists_of f os ++ f q
lists_more f [] q = append-nil (f q)
lists_more f (None ∷ os) q = lists_more f os q
lists_more f (Some p ∷ os) q = ap (λ (l : List ℕ). f p ++ l) (lists_more f os q) ∙ sym (append_assoc (f p) (lists_of f os) (f q))

pub joined_none : (p : PassView) → JoinedAll p [] p
joined_none p = record {
  shares = sum p.view.shares;
  unmounted = sym (append-nil p.view.unmounted);
  gone = sym (append-nil p.view.gone);
  decays = same_grew _ _ 0 refl refl;
  clears = same_grew _ _ 0 refl refl;
  stored = same_grew _ _ 0 refl refl;
  turned = same_grew _ _ 0 refl refl;
  whole = λ some. absurd (omega (arith, some));
}
  where
    sum : (n : ℕ) → n ≡ n + 0
    sum n = omega arith

sum_grew : (a b c : ℕ) (f : PassView → ℕ) (os : List (Option PassView)) (q : PassView) → Grew a b (sum_of f os) → Grew b c (f q) → Grew a c (sum_of f (os ++ Some q ∷ []))
sum_grew a b c f os q h k = subst (Grew a c) (sym (sum_more f os q)) (grew_more a b c (sum_of f os) (f q) h k)

pub joined_more : (p : PassView) (os : List (Option PassView)) (q : PassView) (o : Option PassView) (r : PassView) → JoinedAll p os q → JoinedWith q o r → JoinedAll p (os ++ o ∷ []) r
joined_more p os q None r h k = absurd k
joined_more p os q (Some s) r h k = record {
  shares = (let n = sum_more (λ (t : PassView). t.view.shares) os s in omega (arith, h.shares, k.shares, n));
  unmounted = k.unmounted ∙ ap (λ (l : List ℕ). l ++ s.view.unmounted) h.unmounted ∙ append_assoc p.view.unmounted (lists_of (λ (t : PassView). t.view.unmounted) os) s.view.unmounted
      ∙ ap (λ (l : List ℕ). p.view.unmounted ++ l) (sym (lists_more (λ (t : PassView). t.view.unmounted) os s));
  gone = k.gone ∙ ap (λ (l : List ℕ). l ++ s.view.gone) h.gone ∙ append_assoc p.view.gone (lists_of (λ (t : PassView). t.view.gone) os) s.view.gone
      ∙ ap (λ (l : List ℕ). p.view.gone ++ l) (sym (lists_more (λ (t : PassView). t.view.gone) os s));
  decays = sum_grew p.work.decays q.work.decays r.work.decays (λ (t : PassView). t.work.decays) os s h.decays (grew_by _ _ _ k.work.decays);
  clears = sum_grew p.work.clears q.work.clears r.work.clears (λ (t : PassView). t.work.clears) os s h.clears (grew_by _ _ _ k.work.clears);
  stored = sum_grew p.work.stored q.work.stored r.work.stored (λ (t : PassView). t.work.stored) os s h.stored (grew_by _ _ _ k.work.stored);
  turned = sum_grew p.work.turned_away q.work.turned_away r.work.turned_away (λ (t : PassView). t.work.turned_away) os s h.turned (grew_by _ _ _ k.work.turned_away);
  whole = λ _. k.whole;
}
