-- An open gap is one actor's.
use Rattle.std.proofs.Common.{arith, ◌≡◌, ◌≢◌, ◌<◌, ◌≤◌, ◌+◌, ℕ, suc, Bool, true, List, [], ◌∷◌, sym, subst, ◌∙◌, ap, inl, inr, refl, length, set, get_or, Some, None}
use Rattle.std.specs.Prelude.{◌==◌, cond, nat_lt, slice_get}
use Rattle.std.specs.List.{find}
use Rattle.std.proofs.lemmas.Bool.{cases_eq, cases_Bool, cases_lt}
use Rattle.std.proofs.lemmas.Bool.Decides.{nat_tests}
use Rattle.std.proofs.lemmas.List.{get_or-set_other, length-set}
use Rattle.sparse_tracker.specs.declared.gaps.OpenGap.{OpenGap}
use Rattle.sparse_tracker.specs.ByteStates.{gap_of}
use Rattle.sparse_tracker.specs.Weights.{total, by_gap}
use Rattle.cache_door.specs.declared.hold.Hold.{Hold}
use Rattle.cache_door.specs.Machine.{State, cell_at, hold_at}
use Rattle.cache_door.specs.Good.{weigh_hold, hold_gap}
use Rattle.cache_door.specs.Laws.{OneOwner}
use Rattle.cache_door.proofs.Weighs.{total-at, total-set, weigh_here}
use Rattle.cache_door.proofs.Places.{past}
use Rattle.cache_door.proofs.Found.{mark, marked, mark_self, found_gap}
use Rattle.sparse_tracker.proofs.Heavy.{heavy}

mark_least : (a b c x y z : ℕ) → mark a b c x y z ≤ 1
mark_least a b c x y z = elim (cases_lt 0 (mark a b c x y z)) [
  | inl p ↦ let k = marked a b c x y z p in rw (k.0, k.1, k.2) (let m = mark_self a b c in omega (arith, m))
  | inr q ↦ omega (arith, q)
]

-- two entries of a list weigh at most what the list does
two_weigh : {X : Type 0} (f : X → ℕ) (xs : List X) (i j : ℕ) (n d : X) → f n ≡ 0 → i < length xs → j < length xs → i ≢ j → f (get_or xs i d) + f (get_or xs j d) ≤ total f xs
two_weigh f xs i j n d z hi hj ne =
    let l = length-set xs i n in
    let a = total-set f xs i n d hi in
    let b = total-at f (set xs i n) j d (omega (arith, l, hj)) in
    let c = ap f (get_or-set_other xs i j n d (λ e. ne (sym e))) in
    omega (arith, a, b, c, z)

-- where at most one entry weighs something, and at most 1, so does the list
one_weighs : {X : Type 0} (f : X → ℕ) (xs : List X) → ((j k : ℕ) (x y : X) → slice_get xs j ≡ Some x → slice_get xs k ≡ Some y → 0 < f x → 0 < f y → j ≡ k) → ((x : X) → f x ≤ 1) → total f xs ≤ 1
one_weighs f [] u l = omega arith
one_weighs f (x ∷ xs) u l = elim (cases_lt 0 (f x)) [
  | inl p ↦ elim (cases_lt 0 (total f xs)) [
    | inl q ↦ let y = heavy f xs q in absurd (let e = u 0 (suc y.0) x y.1.0 refl y.1.1 p y.1.2 in omega (arith, e))
    | inr q ↦ let m = l x in omega (arith, m, q)
  ]
  | inr p ↦ let r = one_weighs f xs (λ j k a b s t c d. let e = u (suc j) (suc k) a b s t c d in omega (arith, e)) l in omega (arith, r, p)
]

pub some_none : {X : Type 0} {x : X} → None ≡ Some x → ⊥
some_none e = cc

pub placed : {X : Type 0} (p : X → Bool) (xs : List X) (y : X) → find p xs ≡ Some y → (j : ℕ) × (slice_get xs j ≡ Some y)
placed p [] y e = absurd (some_none e)
placed p (x ∷ xs) y e = elim (cases_Bool (p x)) [
  | inl t ↦ (0, rw t at e)
  | inr f ↦ let k = placed p xs y (rw f at e) in (suc k.0, k.1)
]

pub held_inside : (s : State) (a : ℕ) (h : Hold) → hold_at s a ≡ Some h → a < length s.holds
held_inside s a h e = elim (cases_lt a (length s.holds)) [
  | inl l ↦ l
  | inr g ↦ absurd (some_none (sym (past s.holds a None g) ∙ e))
]

same_place : (gs : List OpenGap) (j k : ℕ) (g h : OpenGap) → slice_get gs j ≡ Some g → slice_get gs k ≡ Some h → j ≡ k → g ≡ h
same_place gs j k g h a b e = let P : ℕ → Type 0 = λ q. slice_get gs q ≡ Some g in let c = subst P e a in cc

pub one_owner : (tells : Bool) (files : ℕ → ℕ → List ℕ) → OneOwner tells files
one_owner tells files s a b i h k good ea eb same h0 h1 k0 k1 = elim (cases_eq a b) [
  | inl e ↦ e
  | inr n ↦ absurd (
      let r = h.region in
      let t = (cell_at s r).region.tracker in
      let fits = good.holds a h ea in
      let tr = (good.cells r fits.region).tracker in
      let P : ℕ → Type 0 = λ q. gap_of k.gap.id (cell_at s q).region.tracker ≡ Some k.gap in
      let x = placed (λ (q : OpenGap). q.id == h.gap.id) t.gaps h.gap (found_gap s a h good ea (omega (arith, h0, h1))) in
      let y = placed (λ (q : OpenGap). q.id == k.gap.id) t.gaps k.gap (subst P (sym same) (found_gap s b k good eb (omega (arith, k0, k1)))) in
      let g = same_place t.gaps x.0 y.0 h.gap k.gap x.1 y.1 (tr.gaps.apart x.0 y.0 i h.gap k.gap x.1 y.1 h0 h1 k0 k1) in
      let f = mark h.gap.id h.gap.upto h.gap.end in
      let l : nat_lt h.gap.upto h.gap.end ≡ true = grind (arith, nat_tests) in
      let vh : hold_gap f h ≡ 1 = rw l (mark_self h.gap.id h.gap.upto h.gap.end) in
      let Q : OpenGap → Type 0 = λ q. cond (nat_lt q.upto q.end) (by_gap f q) 0 ≡ 1 in
      let vk : hold_gap f k ≡ 1 = subst Q g vh in
      let wa : weigh_hold r (hold_gap f) (hold_at s a) ≡ 1 = rw ea (weigh_here r (hold_gap f) (Some h) refl ∙ vh) in
      let wb : weigh_hold r (hold_gap f) (hold_at s b) ≡ 1 = rw eb (weigh_here r (hold_gap f) (Some k) (sym same) ∙ vk) in
      let two = two_weigh (weigh_hold r (hold_gap f)) s.holds a b None None refl (held_inside s a h ea) (held_inside s b k eb) n in
      let o = good.gaps r f fits.region in
      let ids : (j m : ℕ) (p q : OpenGap) → slice_get t.gaps j ≡ Some p → slice_get t.gaps m ≡ Some q → 0 < by_gap f p → 0 < by_gap f q → j ≡ m =
      λ j m p q sp sq fp fq. tr.ids j m p q sp sq ((marked h.gap.id h.gap.upto h.gap.end p.id p.upto p.end fp).0 ∙ sym (marked h.gap.id h.gap.upto h.gap.end q.id q.upto q.end fq).0) in
      let m = one_weighs (by_gap f) t.gaps ids (λ p. mark_least h.gap.id h.gap.upto h.gap.end p.id p.upto p.end) in
      omega (arith, two, wa, wb, o, m))
]
