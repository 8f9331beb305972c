-- The set of live documents, as their text is read.
use Rattle.std.proofs.Common.{◌≡◌, ◌≢◌, ℕ, zero, suc, ◌+◌, ◌<◌, ◌≤◌, ◌∙◌, ap, ap₂, sym, subst, refl, arith, append-nil, inl, inr, Bool, true, false, List, [], ◌∷◌, ◌++◌, length, filter, replicate, Ok}
use Rattle.std.specs.Prelude.{Option, Some, None, ◌==◌, ◌||◌, ◌&&◌, nat_lt, slice_index_or, slice_set}
use Rattle.std.specs.List.{range_with_len}
use Rattle.std.proofs.Math.Nat.{eq-or-lt_of_le}
use Rattle.std.proofs.lemmas.Bool.{and_parts, cases_lt}
use Rattle.std.proofs.lemmas.Bool.Decides.{nat_tests}
use Rattle.std.proofs.lemmas.List.{get_or-set_same, get_or-set_other, get_or-replicate, get_or_past, length-replicate, length-set}
use Rattle.std.proofs.lemmas.List.Folds.{list_any-append}
use Rattle.std.proofs.Math.Bool.{or-true, or-false}
use Rattle.text_lines.specs.Words.{is_above}
use Rattle.doc_bits.specs.Places.{places_of}
use Rattle.doc_bits.proofs.Lists.{filter-range_same, filter-range_none}
use Rattle.simpletext_stored.specs.Reading.{Lines, lines_of, map_ok}
use Rattle.simpletext_stored.specs.Live.{form_of, last, last_doc, is_listing, is_allowed, may_end, doc_numbers, live}
use Rattle.simpletext_stored.specs.Listing.{IsLiveState, LiveStep, IsDocWithin, HoldsLive, IsSetOf, RiseWithin, bound, is_in, with_doc}
use Rattle.simpletext_stored.specs.declared.live_form.LiveForm.{LiveForm}
use Rattle.simpletext_stored.specs.declared.live_form.LiveForm.TheVariants.{Size, Doc, End, Checksum, Unknown}
use Rattle.simpletext_stored.specs.declared.live_state.LiveState.{LiveState}

-- ---- numbers that rise

rise_more : (low high n : ℕ) (ds : List ℕ) → low ≤ n → high ≤ n → RiseWithin low high ds → RiseWithin low (n + 1) (ds ++ n ∷ [])
rise_more low high n [] least above h = (least, omega arith, tt)
rise_more low high n (d ∷ ds) least above h =
    let below : d < n + 1 = omega (arith, above, h.1) in
    let next : d + 1 ≤ n = omega (arith, above, h.1) in
    (h.0, below, rise_more (d + 1) high n ds next above h.2)

rise_on : (low high later : ℕ) (ds : List ℕ) → high ≤ later → RiseWithin low high ds → RiseWithin low later ds
rise_on low high later [] le h = tt
rise_on low high later (d ∷ ds) le h =
    let below : d < later = omega (arith, le, h.1) in
    (h.0, below, rise_on (d + 1) high later ds le h.2)

not_before : (low high i : ℕ) (ds : List ℕ) → i < low → RiseWithin low high ds → is_in ds i ≡ false
not_before low high i [] before h = refl
not_before low high i (d ∷ ds) before h =
    let other : (d == i) ≡ false = grind (arith, nat_tests, h.0) in
    let next : i < d + 1 = omega (arith, before, h.0) in
    rw other (not_before (d + 1) high i ds next h.2)

module _ (lo len d : ℕ) (ds : List ℕ) where
  here : d ≡ lo → RiseWithin (d + 1) (lo + 1 + len) ds → filter (is_in ds) (range_with_len (lo + 1) len) ≡ ds
      → filter (is_in (d ∷ ds)) (lo ∷ range_with_len (lo + 1) len) ≡ d ∷ ds
  here is h later =
      let first : (d == lo) ≡ true = grind (arith, nat_tests) in
      let others = filter-range_same (is_in (d ∷ ds)) (is_in ds) (lo + 1) len (λ i low high. (let other : (d == i) ≡ false = grind (arith, nat_tests) in rw other refl)) in
      rw first (ap₂ (λ x xs. x ∷ xs) (sym is) (others ∙ later))

  later : lo < d → RiseWithin (d + 1) (lo + 1 + len) ds → filter (is_in (d ∷ ds)) (range_with_len (lo + 1) len) ≡ d ∷ ds
      → filter (is_in (d ∷ ds)) (lo ∷ range_with_len (lo + 1) len) ≡ d ∷ ds
  later above h rest =
      let first : (d == lo) ≡ false = grind (arith, nat_tests) in
      let next : lo < d + 1 = omega arith in
      rw (first, not_before (d + 1) (lo + 1 + len) lo ds next h) rest

-- numbers that rise are those places of their range that they stand at
rising_filter : (len lo high : ℕ) (ds : List ℕ) → high ≡ lo + len → RiseWithin lo high ds → filter (is_in ds) (range_with_len lo len) ≡ ds
rising_filter zero lo high [] e h = refl
rising_filter zero lo high (d ∷ ds) e h = absurd (omega (arith, e, h.0, h.1))
rising_filter (suc len) lo high [] e h = filter-range_none (is_in []) lo (suc len) (λ i low high. refl)
rising_filter (suc len) lo high (d ∷ ds) e h =
    let e' : high ≡ lo + 1 + len = omega (arith, e) in
    let h' = subst (λ k. RiseWithin (d + 1) k ds) e' h.2 in
    let below : d < high = h.1 in
    elim (eq-or-lt_of_le h.0) [
      | inl same ↦
          let is : d ≡ lo = sym same in
          here lo len d ds is h' (rising_filter len (lo + 1) high ds e' (subst (λ k. RiseWithin (k + 1) high ds) is h.2))
      | inr above ↦
          let low : lo + 1 ≤ d = omega (arith, above) in
          later lo len d ds above h' (rising_filter len (lo + 1) high (d ∷ ds) e' (low, below, h.2))
    ]

-- ---- the set

bound_fits : (doc : Option ℕ) (n : ℕ) → is_above doc n ≡ true → bound doc ≤ n
bound_fits None n h = omega arith
bound_fits (Some m) n h = grind (arith, nat_tests)

pub none_in : (docs i : ℕ) → slice_index_or (replicate docs false) i false ≡ false
none_in docs i = elim (cases_lt i docs) [
  | inl within ↦ get_or-replicate docs i false false within
  | inr past ↦ get_or_past (replicate docs false) i false (let long = length-replicate docs false in omega arith)
]

pub empty_set : (docs : ℕ) (bits : List Bool) → bits ≡ replicate docs false → IsSetOf docs None [] bits
empty_set docs bits is = record { rising = tt; bounded = omega arith; same = λ i. rw is (none_in docs i) }

is_in_more : (numbers : List ℕ) (n i : ℕ) (b : Bool) → (n == i) ≡ b → is_in (numbers ++ n ∷ []) i ≡ (is_in numbers i || b)
is_in_more numbers n i true is = list_any-append (λ k. k == i) numbers (n ∷ []) ∙ rw is refl
is_in_more numbers n i false is = list_any-append (λ k. k == i) numbers (n ∷ []) ∙ rw is refl

set_with : (docs : ℕ) (doc : Option ℕ) (numbers : List ℕ) (bits : List Bool) (n : ℕ) → length bits ≡ docs → n < docs → is_above doc n ≡ true
    → IsSetOf docs doc numbers bits → IsSetOf docs (Some n) (numbers ++ n ∷ []) (slice_set bits n true)
set_with docs doc numbers bits n len within above h = record {
  rising = rise_more 0 (bound doc) n numbers (omega arith) (bound_fits doc n above) h.rising;
  bounded = omega arith;
  same = λ i. at i (n == i) refl;
}
  where
    at : (i : ℕ) (b : Bool) → (n == i) ≡ b → slice_index_or (slice_set bits n true) i false ≡ is_in (numbers ++ n ∷ []) i
    at i true is =
        let e : n ≡ i = grind (arith, nat_tests) in
        let inside : n < length bits = omega (arith, len, within) in
        subst (λ k. slice_index_or (slice_set bits n true) k false ≡ true) e (get_or-set_same bits n true false inside)
        ∙ sym (is_in_more numbers n i true is ∙ or-true (is_in numbers i))
    at i false is =
        let other : i ≢ n = (λ e. absurd (grind (arith, nat_tests, e, is))) in
        get_or-set_other bits n i true false other ∙ h.same i ∙ sym (is_in_more numbers n i false is ∙ or-false (is_in numbers i))

pub set_places : (docs : ℕ) (doc : Option ℕ) (numbers : List ℕ) (bits : List Bool) → length bits ≡ docs → IsSetOf docs doc numbers bits → places_of bits ≡ numbers
set_places docs doc numbers bits len h =
    filter-range_same (λ i. slice_index_or bits i false) (is_in numbers) 0 (length bits) (λ i low high. h.same i)
    ∙ rising_filter (length bits) 0 (length bits) numbers (omega arith) (rise_on 0 (bound doc) (length bits) numbers (omega (arith, len, h.bounded)) h.rising)

-- ---- the text

pub none_listed : (docs : ℕ) (state : LiveState) (bits : List Bool) → IsLiveState [] state → bits ≡ replicate docs false → HoldsLive docs [] [] state bits
none_listed docs state bits is none = record { is = is; size = rw none (length-replicate docs false); set = empty_set docs bits none }

doc_numbers-append : (xs ys : Lines LiveForm) → doc_numbers (xs ++ ys) ≡ doc_numbers xs ++ doc_numbers ys
doc_numbers-append [] ys = refl
doc_numbers-append ((at, Size n, l) ∷ xs) ys = doc_numbers-append xs ys
doc_numbers-append ((at, Doc n, l) ∷ xs) ys = ap (λ r. n ∷ r) (doc_numbers-append xs ys)
doc_numbers-append ((at, End, l) ∷ xs) ys = doc_numbers-append xs ys
doc_numbers-append ((at, Checksum, l) ∷ xs) ys = doc_numbers-append xs ys
doc_numbers-append ((at, Unknown, l) ∷ xs) ys = doc_numbers-append xs ys

-- a document line that may stand names a document of these
pub doc_within : (docs : ℕ) (past : List LiveForm) (form : LiveForm) → is_allowed docs past form ≡ true → IsDocWithin docs form
doc_within docs past (Size n) may = tt
doc_within docs past (Doc n) may =
    let below = (and_parts (is_listing (last past)) (nat_lt n docs) (and_parts (is_listing (last past) && nat_lt n docs) (is_above (last_doc past) n) may).0).1 in
    grind (arith, nat_tests)
doc_within docs past End may = tt
doc_within docs past Checksum may = tt
doc_within docs past Unknown may = tt

with_doc_length : (form : LiveForm) (bits : List Bool) → length (with_doc form bits) ≡ length bits
with_doc_length (Size n) bits = refl
with_doc_length (Doc n) bits = length-set bits n true
with_doc_length End bits = refl
with_doc_length Checksum bits = refl
with_doc_length Unknown bits = refl

set_after : (docs : ℕ) (past : List LiveForm) (numbers : List ℕ) (bits : List Bool) (at : ℕ) (form : LiveForm) (content : List ℕ) → length bits ≡ docs → is_allowed docs past form ≡ true
    → IsSetOf docs (last_doc past) numbers bits → IsSetOf docs (last_doc (form ∷ past)) (numbers ++ doc_numbers ((at, form, content) ∷ [])) (with_doc form bits)
set_after docs past numbers bits at (Doc n) content len may h =
    let parts = and_parts (is_listing (last past) && nat_lt n docs) (is_above (last_doc past) n) may in
    set_with docs (last_doc past) numbers bits n len (doc_within docs past (Doc n) may) parts.1 h
set_after docs past numbers bits at (Size n) content len may h = rw append-nil h
set_after docs past numbers bits at End content len may h = rw append-nil h
set_after docs past numbers bits at Checksum content len may h = rw append-nil h
set_after docs past numbers bits at Unknown content len may h = rw append-nil h

pub line_listed : (docs : ℕ) (past : List LiveForm) (kept : Lines LiveForm) (at : ℕ) (state : LiveState) (bits : List Bool) → HoldsLive docs past kept state bits
    → (content : List ℕ) (new : LiveState) → LiveStep docs past (form_of content) new true
    → HoldsLive docs (form_of content ∷ past) (kept ++ (at, form_of content, content) ∷ []) new (with_doc (form_of content) bits)
line_listed docs past kept at state bits held content new step =
    let own = (at, form_of content, content) ∷ [] in
    record {
      is = step.after refl;
      size = with_doc_length (form_of content) bits ∙ held.size;
      set = subst (λ ns. IsSetOf docs (last_doc (form_of content ∷ past)) ns (with_doc (form_of content) bits)) (sym (doc_numbers-append kept own))
          (set_after docs past (doc_numbers kept) bits at (form_of content) content held.size (sym step.same) held.set);
    }

pub all_listed : (docs : ℕ) (text : List ℕ) (past : List LiveForm) (kept : Lines LiveForm) (state : LiveState) (bits : List Bool) → HoldsLive docs past kept state bits
    → lines_of form_of (is_allowed docs) may_end text ≡ Ok kept → live text docs ≡ Ok (places_of bits)
all_listed docs text past kept state bits held is =
    ap (map_ok doc_numbers) is ∙ ap Ok (sym (set_places docs (last_doc past) (doc_numbers kept) bits held.size held.set))
