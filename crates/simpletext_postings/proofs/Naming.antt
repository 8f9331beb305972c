-- Terms that lie among the names, which grow.
use Rattle.std.proofs.Common.{arith, ◌≡◌, ℕ, ◌+◌, ◌≤◌, length, List, [], ◌∷◌, ◌++◌, append-nil, take, drop, subst, Option, None, sym, true, refl, ap, ap₂, ◌∙◌}
use Rattle.std.specs.Prelude.{map}
use Rattle.std.specs.List.{list_all}
use Rattle.std.proofs.lemmas.Bool.{and_parts, and_from}
use Rattle.std.proofs.lemmas.Bool.Decides.{nat_tests}
use Rattle.std.proofs.lemmas.List.{length-append, length-drop, drop-append-le, take-append-le, drop_at, take_all}
use Rattle.std.proofs.lemmas.List.Folds.{list_all-append}
use Rattle.directory_input.specs.Reads.{slice_of}
use Rattle.simpletext_postings.specs.Places.{numbered, lies_in, lengths}
use Rattle.simpletext_postings.specs.Openings.{option_places, AreNamed}
use Rattle.simpletext_postings.specs.declared.places.Place.{Place}
use Rattle.simpletext_postings.proofs.Opened.{all_more, all_join}

-- ---- where a term lies

pub lies : (n : ℕ) (p : Place) → lies_in n p ≡ true → p.start + p.length ≤ n
lies n p h = grind (arith, nat_tests)

pub lies_of : (n : ℕ) (p : Place) → p.start + p.length ≤ n → lies_in n p ≡ true
lies_of n p h = grind (arith, nat_tests)

lies_more : (n m : ℕ) → n ≤ m → (p : Place) → lies_in n p ≡ true → lies_in m p ≡ true
lies_more n m le p h = let own = lies n p h in lies_of m p (omega arith)

-- ---- more names

slice_more : (start n : ℕ) (names more : List ℕ) → start + n ≤ length names → slice_of start n (names ++ more) ≡ slice_of start n names
slice_more start n names more h =
    let rest = length-drop start names in
    ap (take n) (drop-append-le start names more (omega (arith, h))) ∙ take-append-le n (drop start names) more (omega (arith, rest, h))

numbered_more : (names more : List ℕ) (p : Place) → lies_in (length names) p ≡ true → numbered (names ++ more) p ≡ numbered names p
numbered_more names more p h = let e = slice_more p.start p.length names more (lies _ p h) in rw e refl

pub read_more : (names more : List ℕ) (ps : List Place) → list_all (lies_in (length names)) ps ≡ true → map (numbered (names ++ more)) ps ≡ map (numbered names) ps
read_more names more [] h = refl
read_more names more (p ∷ ps) h =
    let hs = and_parts (lies_in (length names) p) (list_all (lies_in (length names)) ps) h in
    ap₂ (λ x xs. x ∷ xs) (numbered_more names more p hs.0) (read_more names more ps hs.1)

pub numbered_last : (names name : List ℕ) (p : Place) → p.start ≡ length names → p.length ≡ length name
    → numbered (names ++ name) p ≡ record { field = p.field; term = name; from = p.from; to = p.to }
numbered_last names name p s n =
    let d : drop p.start (names ++ name) ≡ name = drop_at names name p.start (sym s) in
    let t : take p.length name ≡ name = take_all p.length name (omega (arith, n)) in
    let e : slice_of p.start p.length (names ++ name) ≡ name = ap (take p.length) d ∙ t in
    rw e refl

-- ---- the names are the bytes of the terms

lengths-append : (ps qs : List Place) → lengths (ps ++ qs) ≡ lengths ps + lengths qs
lengths-append [] qs = omega arith
lengths-append (p ∷ ps) qs = let e = lengths-append ps qs in omega (arith, e)

pub named_closed : (n at : ℕ) (ps : List Place) (p : Place) → AreNamed n (ps ++ p ∷ []) → AreNamed n (ps ++ record p { to = at } ∷ [])
named_closed n at ps p h = record {
  lie = list_all-append (lies_in n) ps (record p { to = at } ∷ []) ∙ sym (list_all-append (lies_in n) ps (p ∷ [])) ∙ h.lie;
  whole = lengths-append ps (record p { to = at } ∷ []) ∙ sym (lengths-append ps (p ∷ [])) ∙ h.whole;
}

pub named_closed_as : (n at : ℕ) (ps new : List Place) (p : Place) → new ≡ ps ++ record p { to = at } ∷ [] → AreNamed n (ps ++ p ∷ []) → AreNamed n (new ++ [])
named_closed_as n at ps new p e h = subst (AreNamed n) (sym (append-nil new ∙ e)) (named_closed n at ps p h)

pub none_open : (n : ℕ) (ps : List Place) (term : Option Place) → term ≡ None → AreNamed n (ps ++ option_places term) → AreNamed n ps
none_open n ps term none h = subst (AreNamed n) (ap (λ t. ps ++ option_places t) none ∙ append-nil ps) h

pub numbered_new : (names name : List ℕ) (from field : ℕ) (p : Place) → p ≡ record { from = from; to = from; start = length names; length = length name; field = field }
    → numbered (names ++ name) p ≡ record { field = field; term = name; from = from; to = from }
numbered_new names name from field p e =
    subst (λ x. numbered (names ++ name) x ≡ record { field = field; term = name; from = from; to = from }) (sym e)
    (numbered_last names name (record { from = from; to = from; start = length names; length = length name; field = field }) refl refl)

pub named_more : (names name : List ℕ) (ps : List Place) (p : Place) → AreNamed (length names) ps → p.start ≡ length names → p.length ≡ length name
    → AreNamed (length (names ++ name)) (ps ++ p ∷ [])
named_more names name ps p h s n =
    let all = length-append names name in
    let one : p.start + p.length ≤ length (names ++ name) = omega (arith, all, s, n) in
    record {
      lie = all_join (lies_in (length (names ++ name))) ps (p ∷ [])
          (all_more (lies_in (length names)) (lies_in (length (names ++ name))) (lies_more (length names) (length (names ++ name)) (omega (arith, all))) ps h.lie)
          (and_from _ true (lies_of _ p one) refl);
      whole = let e = lengths-append ps (p ∷ []) in omega (arith, e, all, h.whole, n);
    }
