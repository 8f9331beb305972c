-- The entries of a table: writes at one place, and what a key's region is.
use Rattle.std.proofs.Common.{arith, ◌≡◌, ◌≢◌, ◌<◌, ◌+◌, ℕ, zero, suc, List, [], ◌∷◌, sym, ◌∙◌, ap, inl, inr, refl, length, set, get_or, Option, Some, None}
use Rattle.std.specs.Prelude.{◌==◌, IsSome}
use Rattle.std.proofs.lemmas.Bool.{cases_Bool, eq-eqb, eqb-true}
use Rattle.key_table.specs.declared.places.Entry.{Entry}
use Rattle.key_table.specs.Slots.{region_in, keys_in, entry_at, AreApart}

-- ---- one place

pub put : (i : ℕ) (x : Option Entry) (xs : List (Option Entry)) → i < length xs → entry_at (set xs i x) i ≡ x
put i x [] h = absurd (omega arith)
put zero x (y ∷ ys) h = refl
put (suc i) x (y ∷ ys) h = put i x ys (omega arith)

pub put_other : (i j : ℕ) (x : Option Entry) (xs : List (Option Entry)) → ¬ (i ≡ j) → entry_at (set xs i x) j ≡ entry_at xs j
put_other i j x [] d = refl
put_other zero zero x (y ∷ ys) d = absurd (d refl)
put_other zero (suc j) x (y ∷ ys) d = refl
put_other (suc i) zero x (y ∷ ys) d = refl
put_other (suc i) (suc j) x (y ∷ ys) d = put_other i j x ys (λ e. d (ap suc e))

pub read : (i : ℕ) (x : Option Entry) (xs : List (Option Entry)) → i < length xs → x ≡ get_or xs i x → entry_at xs i ≡ x
read i x [] h e = absurd (omega arith)
read zero x (y ∷ ys) h e = sym e
read (suc i) x (y ∷ ys) h e = read i x ys (omega arith) e

pub within : (i : ℕ) (e : Entry) (xs : List (Option Entry)) → entry_at xs i ≡ Some e → i < length xs
within i e [] h = cc
within zero e (x ∷ xs) h = omega arith
within (suc i) e (x ∷ xs) h = omega (arith, within i e xs h)

-- ---- how many

abbrev pub one : Option Entry → ℕ
one None = 0
one (Some e) = 1

pub put_len : (i : ℕ) (x : Option Entry) (xs : List (Option Entry)) → i < length xs → keys_in (set xs i x) + one (entry_at xs i) ≡ keys_in xs + one x
put_len i x [] h = absurd (omega arith)
put_len zero None (None ∷ ys) h = refl
put_len zero None (Some y ∷ ys) h = omega arith
put_len zero (Some e) (None ∷ ys) h = omega arith
put_len zero (Some e) (Some y ∷ ys) h = refl
put_len (suc i) x (None ∷ ys) h = put_len i x ys (omega arith)
put_len (suc i) x (Some y ∷ ys) h = omega (arith, put_len i x ys (omega arith))

-- where not all places have an entry one is free
pub free_place : (xs : List (Option Entry)) → keys_in xs < length xs → (f : ℕ) × (f < length xs) × (entry_at xs f ≡ None)
free_place [] h = absurd (omega arith)
free_place (None ∷ xs) h = (0, omega arith, refl)
free_place (Some e ∷ xs) h = let r = free_place xs (omega (arith, h)) in (suc r.0, omega (arith, r.1), r.2)

-- ---- the region of a key

pub held : (key r : ℕ) (xs : List (Option Entry)) → region_in key xs ≡ Some r → (s : ℕ) × (e : Entry) × (entry_at xs s ≡ Some e) × (e.key ≡ key) × (e.region ≡ r)
held key r [] h = absurd (cc)
held key r (None ∷ xs) h = let t = held key r xs h in (suc t.0, t.1, t.2, t.3, t.4)
held key r (Some g ∷ xs) h = elim (cases_Bool (g.key == key)) [
  | inl k ↦ let e = rw k at h in (0, g, refl, eqb-true g.key key k, (let i : g.region ≡ r = cc in i))
  | inr k ↦ let e = rw k at h in let t = held key r xs e in (suc t.0, t.1, t.2, t.3, t.4)
]

pub unheld : (key s : ℕ) (e : Entry) (xs : List (Option Entry)) → region_in key xs ≡ None → entry_at xs s ≡ Some e → e.key ≢ key
unheld key s e [] h at k = cc
unheld key zero e (None ∷ xs) h at k = cc
unheld key (suc s) e (None ∷ xs) h at k = unheld key s e xs h at k
unheld key zero e (Some g ∷ xs) h at k =
    let i : g ≡ e = cc in
    let t = eq-eqb g.key key (ap (λ (y : Entry). y.key) i ∙ k) in
    let n = rw t at h in cc
unheld key (suc s) e (Some g ∷ xs) h at k = elim (cases_Bool (g.key == key)) [
  | inl t ↦ let n = rw t at h in cc
  | inr t ↦ let n = rw t at h in unheld key s e xs n at k
]

pub holds : (s : ℕ) (e : Entry) (xs : List (Option Entry)) → AreApart xs → entry_at xs s ≡ Some e → region_in e.key xs ≡ Some e.region
holds s e xs apart at = by (region_in e.key xs) refl
  where
    by : (o : Option ℕ) → region_in e.key xs ≡ o → region_in e.key xs ≡ Some e.region
    by None h = absurd (unheld e.key s e xs h at refl)
    by (Some r) h =
        let t = held e.key r xs h in
        let i = apart t.0 s t.1 e t.2 at t.3 in
        let same : Some t.1 ≡ Some e = sym t.2 ∙ ap (λ (k : ℕ). entry_at xs k) i ∙ at in
        let is : t.1 ≡ e = cc in
        h ∙ ap (λ (k : ℕ). Some k) (sym t.4 ∙ ap (λ (y : Entry). y.region) is)

pub lacks : (key : ℕ) (xs : List (Option Entry)) → ((s : ℕ) (e : Entry) → entry_at xs s ≡ Some e → e.key ≢ key) → region_in key xs ≡ None
lacks key xs none = by (region_in key xs) refl
  where
    by : (o : Option ℕ) → region_in key xs ≡ o → region_in key xs ≡ None
    by None h = h
    by (Some r) h = let t = held key r xs h in absurd (none t.0 t.1 t.2 t.3)

-- what two tables with the same entries tell, and one with an entry more
pub same_regions : (xs ys : List (Option Entry)) → AreApart xs → AreApart ys
    → ((s : ℕ) (e : Entry) → entry_at xs s ≡ Some e → (t : ℕ) × (entry_at ys t ≡ Some e))
    → ((t : ℕ) (e : Entry) → entry_at ys t ≡ Some e → (s : ℕ) × (entry_at xs s ≡ Some e))
    → (key : ℕ) → region_in key ys ≡ region_in key xs
same_regions xs ys apart_xs apart_ys there back key = by (region_in key xs) refl
  where
    by : (o : Option ℕ) → region_in key xs ≡ o → region_in key ys ≡ region_in key xs
    by None h = lacks key ys (λ t e at k. (let b = back t e at in absurd (unheld key b.0 e xs h b.1 k))) ∙ sym h
    by (Some r) h =
        let t = held key r xs h in
        let w = there t.0 t.1 t.2 in
        ap (λ (k : ℕ). region_in k ys) (sym t.3) ∙ holds w.0 t.1 ys apart_ys w.1 ∙ ap (λ (k : ℕ). Some k) t.4 ∙ sym h

pub read_some : (i : ℕ) (d : Option Entry) (e : Entry) (xs : List (Option Entry)) → i < length xs → get_or xs i d ≡ Some e → entry_at xs i ≡ Some e
read_some i d e [] h g = absurd (omega arith)
read_some zero d e (y ∷ ys) h g = g
read_some (suc i) d e (y ∷ ys) h g = read_some i d e ys (omega arith) g

pub within_some : (i : ℕ) (xs : List (Option Entry)) → IsSome (entry_at xs i) → i < length xs
within_some i [] h = absurd (cc)
within_some zero (x ∷ xs) h = omega arith
within_some (suc i) (x ∷ xs) h = omega (arith, within_some i xs h)
