-- What each line of a postings text adds to the terms so far.
use Rattle.std.proofs.Common.{arith, ◌≡◌, ℕ, zero, suc, ◌+◌, ◌<◌, ◌≤◌, length, get_or, List, [], ◌∷◌, ◌++◌, append-nil, Option, Some, None, sym, Bool, true, false, refl, ap, ap₂, ◌∙◌, subst, true≢false}
use Rattle.std.specs.Prelude.{◌==◌, ◌&&◌, ◌||◌, not, is_some, map, nat_lt, nat_le, option_map, if◌then◌else◌}
use Rattle.std.specs.Ordering.{nat_cmp, is_lt}
use Rattle.std.specs.Cmp.Lexicographic.{slice_cmp}
use Rattle.std.specs.List.{list_all, list_any}
use Rattle.std.specs.Str.{bytes_eq}
use Rattle.std.proofs.lemmas.Bool.{and_parts, or_parts, and_from, or_left, or_from, or_right, not_from_false, not-true}
use Rattle.std.proofs.lemmas.Bool.Decides.{nat_tests}
use Rattle.std.proofs.lemmas.List.{map-append, length-append}
use Rattle.std.proofs.lemmas.List.Folds.{list_all-append, list_any-append}
use Rattle.std.proofs.Math.Bool.{or-false, and-true, and-false}
use Rattle.simpletext_postings.specs.Postings.{fields, last_field, last_term, at_end, at_field_or_term, ends_entry, may_begin_field, is_term_above, is_allowed, is_passed}
use Rattle.simpletext_postings.specs.Places.{NumberedTerm, numbered, named, is_place, is_before, rise, differ}
use Rattle.simpletext_postings.specs.Shapes.{form_with}
use Rattle.simpletext_postings.specs.Openings.{terms_read, term_read, IsTableState, Moves, MovesBy, is_within, place_term, IsInField, IsOpeningOf, open_term, AddsTerms, is_earlier, KeepsLast, IsKept, past_after, Takes, closed_at, Closes}
use Rattle.simpletext_postings.specs.Forms.{Form}
use Rattle.simpletext_postings.specs.Forms.{Field, Term, Doc, Freq, Pos, StartOffset, EndOffset, Payload, End, Checksum, Indented, Unknown}
use Rattle.simpletext_postings.specs.declared.shape.Shape.{Shape}
use Rattle.simpletext_postings.specs.declared.shape.Shape.TheVariants as shape
use Rattle.simpletext_postings.specs.declared.table.TableState.{TableState}
use Rattle.simpletext_postings.specs.declared.places.Place.{Place}
use Rattle.simpletext_postings.specs.declared.opening.Opening.{Opening}
use Rattle.simpletext_postings.proofs.Rising.{Below, below_trans, same_bytes, bytes_same}

-- ---- where a line may stand

-- what holds neither at the start nor behind the end holds within a field alone
within_if : (test : List Form → Bool) → test [] ≡ false → ((past : List Form) → test (End ∷ past) ≡ false) → ((past : List Form) → test (Checksum ∷ past) ≡ false)
    → (past : List Form) → test past ≡ true → is_within past ≡ true
within_if test none end sum [] h = absurd (true≢false (sym h ∙ none))
within_if test none end sum (End ∷ past) h = absurd (true≢false (sym h ∙ end past))
within_if test none end sum (Checksum ∷ past) h = absurd (true≢false (sym h ∙ sum past))
within_if test none end sum (_ ∷ past) h = refl

abbrev IsWithinWhere : ℕ → List Form → Form → Type 0
IsWithinWhere docs past form = is_allowed docs past form ≡ true → is_within past ≡ true

within_term : (docs : ℕ) (past : List Form) (t : List ℕ) → IsWithinWhere docs past (Term t)
within_term docs past t = within_if (λ p. is_allowed docs p (Term t)) refl (λ _. refl) (λ _. refl) past

within_doc : (docs : ℕ) (past : List Form) (n : ℕ) → IsWithinWhere docs past (Doc n)
within_doc docs past n = within_if (λ p. is_allowed docs p (Doc n)) refl (λ _. refl) (λ _. refl) past

within_freq : (docs : ℕ) (past : List Form) (n : ℕ) → IsWithinWhere docs past (Freq n)
within_freq docs past n = within_if (λ p. is_allowed docs p (Freq n)) refl (λ _. refl) (λ _. refl) past

within_pos : (docs : ℕ) (past : List Form) (n : ℕ) → IsWithinWhere docs past (Pos n)
within_pos docs past n = within_if (λ p. is_allowed docs p (Pos n)) refl (λ _. refl) (λ _. refl) past

within_start : (docs : ℕ) (past : List Form) → IsWithinWhere docs past StartOffset
within_start docs past = within_if (λ p. is_allowed docs p StartOffset) refl (λ _. refl) (λ _. refl) past

within_end : (docs : ℕ) (past : List Form) → IsWithinWhere docs past EndOffset
within_end docs past = within_if (λ p. is_allowed docs p EndOffset) refl (λ _. refl) (λ _. refl) past

within_payload : (docs : ℕ) (past : List Form) → IsWithinWhere docs past Payload
within_payload docs past = within_if (λ p. is_allowed docs p Payload) refl (λ _. refl) (λ _. refl) past

-- a checksum line stands behind the end
outside_end : (past : List Form) → at_end past ≡ true → is_within past ≡ false
outside_end (End ∷ past) h = refl
outside_end [] h = refl
outside_end (Checksum ∷ past) h = refl
outside_end (Field f ∷ past) h = absurd (true≢false (sym h))
outside_end (Term f ∷ past) h = absurd (true≢false (sym h))
outside_end (Doc f ∷ past) h = absurd (true≢false (sym h))
outside_end (Freq f ∷ past) h = absurd (true≢false (sym h))
outside_end (Pos f ∷ past) h = absurd (true≢false (sym h))
outside_end (StartOffset ∷ past) h = absurd (true≢false (sym h))
outside_end (EndOffset ∷ past) h = absurd (true≢false (sym h))
outside_end (Payload ∷ past) h = absurd (true≢false (sym h))
outside_end (Indented ∷ past) h = absurd (true≢false (sym h))
outside_end (Unknown ∷ past) h = absurd (true≢false (sym h))

-- ---- lists

get_or_end : (xs : List (List ℕ)) (x : List ℕ) → get_or (xs ++ x ∷ []) (length xs) [] ≡ x
get_or_end [] x = refl
get_or_end (y ∷ xs) x = get_or_end xs x

get_or_front : (xs : List (List ℕ)) (x : List ℕ) (k : ℕ) → k < length xs → get_or (xs ++ x ∷ []) k [] ≡ get_or xs k []
get_or_front [] x k h = absurd (omega arith)
get_or_front (y ∷ xs) x zero h = refl
get_or_front (y ∷ xs) x (suc k) h = get_or_front xs x k (omega arith)

pub all_more : {A : Type 0} (p q : A → Bool) → ((x : A) → p x ≡ true → q x ≡ true) → (xs : List A) → list_all p xs ≡ true → list_all q xs ≡ true
all_more p q f [] h = refl
all_more p q f (x ∷ xs) h = let parts = and_parts (p x) (list_all p xs) h in rw (f x parts.0) (all_more p q f xs parts.1)

pub all_join : {A : Type 0} (p : A → Bool) (xs ys : List A) → list_all p xs ≡ true → list_all p ys ≡ true → list_all p (xs ++ ys) ≡ true
all_join p xs ys h k = rw (list_all-append p xs ys, h) k

differs_back : (f g : List ℕ) (b : Bool) → bytes_eq f g ≡ b → bytes_eq g f ≡ false → b ≡ false
differs_back f g true e h = absurd (true≢false (sym (bytes_same g f (sym (same_bytes f g e))) ∙ h))
differs_back f g false e h = refl

differ_more : (fs : List (List ℕ)) (name : List ℕ) → differ fs ≡ true → list_any (bytes_eq name) fs ≡ false → differ (fs ++ name ∷ []) ≡ true
differ_more [] name d h = refl
differ_more (f ∷ fs) name d h =
    let ds = and_parts (not (list_any (bytes_eq f) fs)) (differ fs) d in
    let hs = or_parts (bytes_eq name f) (list_any (bytes_eq name) fs) h in
    let own : list_any (bytes_eq f) (name ∷ []) ≡ false = or_from (bytes_eq f name) false (differs_back f name _ refl hs.0) refl in
    let all : list_any (bytes_eq f) (fs ++ name ∷ []) ≡ false = list_any-append (bytes_eq f) fs (name ∷ []) ∙ or_from _ _ (not-true _ ds.0) own in
    and_from _ _ (not_from_false _ all) (differ_more fs name ds.1 hs.1)

-- ---- places

place_parts : (size n : ℕ) (p : NumberedTerm) → is_place size n p ≡ true → (p.field < n) × (p.from ≤ p.to) × (p.to ≤ size)
place_parts size n p h =
    let outer = and_parts (nat_lt p.field n && nat_le p.from p.to) (nat_le p.to size) h in
    let inner = and_parts (nat_lt p.field n) (nat_le p.from p.to) outer.0 in
    let a = inner.0 in
    let b = inner.1 in
    let c = outer.1 in
    (grind (arith, nat_tests), grind (arith, nat_tests), grind (arith, nat_tests))

place_of : (size n : ℕ) (p : NumberedTerm) → p.field < n → p.from ≤ p.to → p.to ≤ size → is_place size n p ≡ true
place_of size n p a b c =
    let x : nat_lt p.field n ≡ true = grind (arith, nat_tests) in
    let y : nat_le p.from p.to ≡ true = grind (arith, nat_tests) in
    let z : nat_le p.to size ≡ true = grind (arith, nat_tests) in
    and_from _ _ (and_from _ _ x y) z

pub place_more : (at behind n m : ℕ) → at ≤ behind → n ≤ m → (p : NumberedTerm) → is_place at n p ≡ true → is_place behind m p ≡ true
place_more at behind n m le few p h =
    let (a, b, c) = place_parts at n p h in
    place_of behind m p (omega arith) b (omega arith)

named_one : (fields : List (List ℕ)) (name : List ℕ) (p : NumberedTerm) → p.field < length fields → named (fields ++ name ∷ []) p ≡ named fields p
named_one fields name p h = let e = get_or_front fields name p.field h in rw e refl

named_more : (size : ℕ) (fields : List (List ℕ)) (name : List ℕ) (places : List NumberedTerm) → list_all (is_place size (length fields)) places ≡ true
    → map (named (fields ++ name ∷ [])) places ≡ map (named fields) places
named_more size fields name [] h = refl
named_more size fields name (p ∷ places) h =
    let parts = and_parts (is_place size (length fields) p) (list_all (is_place size (length fields)) places) h in
    let own = place_parts size (length fields) p parts.0 in
    ap₂ (λ x xs. x ∷ xs) (named_one fields name p own.0) (named_more size fields name places parts.1)

closed_one : (fields : List (List ℕ)) (term : Option NumberedTerm) (at : ℕ) → map (named fields) (closed_at at term) ≡ open_term fields term at
closed_one fields None at = refl
closed_one fields (Some p) at = refl

closed_terms : (fields : List (List ℕ)) (places : List NumberedTerm) (term : Option NumberedTerm) (at : ℕ)
    → map (named fields) (places ++ closed_at at term) ≡ map (named fields) places ++ open_term fields term at
closed_terms fields places term at = map-append (named fields) places (closed_at at term) ∙ ap (λ x. map (named fields) places ++ x) (closed_one fields term at)

-- ---- places that rise

rise_more : (ps : List NumberedTerm) (q : NumberedTerm) → rise ps ≡ true → list_all (λ p. is_before p q) ps ≡ true → rise (ps ++ q ∷ []) ≡ true
rise_more [] q r h = refl
rise_more (p ∷ ps) q r h =
    let rs = and_parts (list_all (is_before p) ps) (rise ps) r in
    let hs = and_parts (is_before p q) (list_all (λ x. is_before x q) ps) h in
    and_from _ _ (all_join (is_before p) ps (q ∷ []) rs.0 (and_from _ true hs.0 refl)) (rise_more ps q rs.1 hs.1)

earlier_before : (p q : NumberedTerm) → p.field < q.field → is_before p q ≡ true
earlier_before p q h = let t : nat_lt p.field q.field ≡ true = grind (arith, nat_tests) in or_left _ _ t

lower_before : (p q : NumberedTerm) → p.field ≡ q.field → Below p.term q.term → is_before p q ≡ true
lower_before p q e h =
    let t : (p.field == q.field) ≡ true = grind (arith, nat_tests) in
    or_right (nat_lt p.field q.field) ((p.field == q.field) && is_lt (slice_cmp nat_cmp p.term q.term)) (and_from _ _ t h)

before_trans_by : (p q r : NumberedTerm) (b : Bool) → nat_lt p.field q.field ≡ b → is_before p q ≡ true → q.field ≡ r.field → Below q.term r.term → is_before p r ≡ true
before_trans_by p q r true e h same below = let lt : p.field < r.field = grind (arith, nat_tests) in earlier_before p r lt
before_trans_by p q r false e h same below =
    let parts = and_parts (p.field == q.field) (is_lt (slice_cmp nat_cmp p.term q.term)) (rw e at h) in
    let t = parts.0 in
    let own : p.field ≡ r.field = grind (arith, nat_tests) in
    lower_before p r own (below_trans p.term q.term r.term parts.1 below)

before_trans : (p q r : NumberedTerm) → q.field ≡ r.field → Below q.term r.term → is_before p q ≡ true → is_before p r ≡ true
before_trans p q r same below h = before_trans_by p q r _ refl h same below

-- ---- the last term, closed

record AreClosed (at n : ℕ) (places : List NumberedTerm) : Type 0 where
  inside : list_all (is_place at n) places ≡ true
  rising : rise places ≡ true

no_term : (at n : ℕ) (places : List NumberedTerm) (term : Option NumberedTerm) → term ≡ None → list_all (is_place at n) places ≡ true → rise places ≡ true
    → AreClosed at n (places ++ closed_at at term)
no_term at n places term none i r = rw (none, append-nil places) (record { inside = i; rising = r })

a_term : (at n : ℕ) (places : List NumberedTerm) (term : Option NumberedTerm) → KeepsLast at n places term → list_all (is_place at n) places ≡ true → rise places ≡ true
    → AreClosed at n (places ++ closed_at at term)
a_term at n places None k i r = no_term at n places None refl i r
a_term at n places (Some q) k i r =
    let here : is_place at n (record q { to = at }) ≡ true = place_of at n (record q { to = at }) (omega (arith, k.0)) k.1 (omega arith) in
    record {
      inside = all_join (is_place at n) places (record q { to = at } ∷ []) i (and_from _ true here refl);
      rising = rise_more places (record q { to = at }) r k.2;
    }

module _ (past : List Form) (at : ℕ) (old : Opening) (of : IsOpeningOf past old) (kept : IsKept past at old) where
  are_closed_by : (b : Bool) → is_within past ≡ b → AreClosed at (length old.fields.items) (terms_read old ++ closed_at at (term_read old))
  are_closed_by true e = a_term at (length old.fields.items) (terms_read old) (term_read old) (kept.last e) kept.inside kept.rising
  are_closed_by false e = no_term at (length old.fields.items) (terms_read old) (term_read old) (of.outside e) kept.inside kept.rising

  are_closed : AreClosed at (length old.fields.items) (terms_read old ++ closed_at at (term_read old))
  are_closed = are_closed_by _ refl

no_last : (names : List ℕ) (term : Option Place) → term ≡ None → option_map (numbered names) term ≡ None
no_last names None h = refl
no_last names (Some p) h = absurd (cc)

closed_read : {at : ℕ} {old new : Opening} → Closes at old new → term_read new ≡ None
closed_read {new = new} closes = no_last new.names.items new.term closes.term

-- ---- the line of a field

module _ (docs : ℕ) (past : List Form) (name : List ℕ) (at behind : ℕ) (old closed new : Opening) (of : IsOpeningOf past old)
    (may : may_begin_field past ≡ true) (other : list_any (bytes_eq name) old.fields.items ≡ false) (closes : Closes at old closed)
    (fields_are : new.fields.items ≡ closed.fields.items ++ name ∷ []) (places_are : terms_read new ≡ terms_read closed)
    (field_is : new.field ≡ length closed.fields.items) (term_is : term_read new ≡ term_read closed) (state : IsTableState (Field name ∷ past) new.state) where
  all_fields : new.fields.items ≡ old.fields.items ++ name ∷ []
  all_fields = fields_are ∙ ap (λ x. x ++ name ∷ []) closes.fields

  all_places : terms_read new ≡ terms_read old ++ closed_at at (term_read old)
  all_places = places_are ∙ closes.places

  none : term_read new ≡ None
  none = term_is ∙ closed_read closes

  number : new.field ≡ length old.fields.items
  number = field_is ∙ ap length closes.fields

  more_fields : length new.fields.items ≡ length old.fields.items + 1
  more_fields = ap length all_fields ∙ length-append old.fields.items (name ∷ [])

  field_allowed : is_allowed docs past (Field name) ≡ true
  field_allowed = and_from _ _ may (not_from_false _ (subst (λ fs. list_any (bytes_eq name) fs ≡ false) of.fields other))

  field_after : IsOpeningOf (Field name ∷ past) new
  field_after = record {
    state = state;
    fields = all_fields ∙ ap (λ x. x ++ name ∷ []) of.fields;
    within = λ _. record {
      number = omega (arith, number, more_fields);
      name = ap₂ (λ xs k. get_or xs k []) all_fields number ∙ get_or_end old.fields.items name;
      term = ap place_term none;
    };
    outside = λ e. absurd (true≢false e);
  }

  earlier : (p : NumberedTerm) → is_place at (length old.fields.items) p ≡ true → is_earlier (length new.fields.items) p ≡ true
  earlier p h = let own = place_parts at (length old.fields.items) p h in let e = more_fields in let lt : p.field + 1 < length new.fields.items = omega (arith, own.0) in grind (arith, nat_tests)

  keeps_none : list_all (is_earlier (length new.fields.items)) (terms_read new) ≡ true → KeepsLast behind (length new.fields.items) (terms_read new) (term_read new)
  keeps_none h = rw none h

  field_kept : at ≤ behind → IsKept past at old → IsKept (Field name ∷ past) behind new
  field_kept le kept =
      let c = are_closed past at old of kept in
      let few : length old.fields.items ≤ length new.fields.items = omega (arith, more_fields) in
      record {
        inside = subst (λ ps. list_all (is_place behind (length new.fields.items)) ps ≡ true) (sym all_places)
            (all_more (is_place at (length old.fields.items)) (is_place behind (length new.fields.items)) (place_more at behind _ _ le few) _ c.inside);
        rising = subst (λ ps. rise ps ≡ true) (sym all_places) c.rising;
        different = subst (λ fs. differ fs ≡ true) (sym all_fields) (differ_more old.fields.items name kept.different other);
        last = λ _. keeps_none (subst (λ ps. list_all (is_earlier (length new.fields.items)) ps ≡ true) (sym all_places)
            (all_more (is_place at (length old.fields.items)) (is_earlier (length new.fields.items)) earlier _ c.inside));
      }

  field_terms : IsKept past at old → AddsTerms past (Field name) at behind old new
  field_terms kept end =
      let c = are_closed past at old of kept in
      let rest = ap (λ t. open_term new.fields.items t end) none in
      ap (λ x. map (named new.fields.items) (terms_read new) ++ x) rest
      ∙ append-nil _
      ∙ ap₂ (λ fs ps. map (named fs) ps) all_fields all_places
      ∙ named_more at old.fields.items name _ c.inside
      ∙ closed_terms old.fields.items (terms_read old) (term_read old) at

  pub takes_field : Takes docs past (Field name) at behind old new true
  takes_field = record {
    same = sym field_allowed;
    after = λ _. field_after;
    kept = λ _. field_kept;
    terms = λ _. field_terms;
  }

-- ---- the line of a term

new_before : (at n : ℕ) (places : List NumberedTerm) (term : Option NumberedTerm) (q : NumberedTerm) → KeepsLast at n places term → q.field + 1 ≡ n
    → is_term_above (place_term term) q.term ≡ true → list_all (λ p. is_before p q) (places ++ closed_at at term) ≡ true
new_before at n places None q k e above =
    let one : (p : NumberedTerm) → is_earlier n p ≡ true → is_before p q ≡ true = λ p h. (let lt : p.field < q.field = grind (arith, nat_tests) in earlier_before p q lt) in
    all_join (λ p. is_before p q) places [] (all_more (is_earlier n) (λ p. is_before p q) one places k) refl
new_before at n places (Some r) q k e above =
    let same : r.field ≡ q.field = omega (arith, k.0) in
    all_join (λ p. is_before p q) places (record r { to = at } ∷ []) (all_more (λ p. is_before p r) (λ p. is_before p q) (λ p. before_trans p r q same above) places k.2)
    (and_from _ true (lower_before (record r { to = at }) q same above) refl)

module _ (docs : ℕ) (past : List Form) (at behind : ℕ) (old closed new : Opening) (q : NumberedTerm) (of : IsOpeningOf past old)
    (may : (at_field_or_term past || ends_entry past) ≡ true) (above : is_term_above (place_term (term_read old)) q.term ≡ true) (closes : Closes at old closed)
    (fields_are : new.fields.items ≡ closed.fields.items) (places_are : terms_read new ≡ terms_read closed) (field_is : new.field ≡ closed.field)
    (own_field : q.field ≡ closed.field) (own_from : q.from ≡ behind)
    (term_is : term_read new ≡ Some q) (state : IsTableState (Term q.term ∷ past) new.state) where
  within : is_within past ≡ true
  within = within_if (λ p. at_field_or_term p || ends_entry p) refl (λ _. refl) (λ _. refl) past may

  in_field : IsInField past old
  in_field = of.within within

  term_fields : new.fields.items ≡ old.fields.items
  term_fields = fields_are ∙ closes.fields

  term_places : terms_read new ≡ terms_read old ++ closed_at at (term_read old)
  term_places = places_are ∙ closes.places

  term_allowed : is_allowed docs past (Term q.term) ≡ true
  term_allowed = and_from _ _ may (subst (λ t. is_term_above t q.term ≡ true) in_field.term above)

  q_field : q.field ≡ old.field
  q_field = own_field ∙ closes.field

  term_after : IsOpeningOf (Term q.term ∷ past) new
  term_after = record {
    state = state;
    fields = term_fields ∙ of.fields;
    within = λ _. record {
      number = let n = ap length term_fields in omega (arith, field_is, closes.field, in_field.number);
      name = ap₂ (λ xs k. get_or xs k []) term_fields (field_is ∙ closes.field) ∙ in_field.name;
      term = ap place_term term_is;
    };
    outside = λ e. absurd (true≢false e);
  }

  q_number : q.field + 1 ≡ length new.fields.items
  q_number = let n = ap length term_fields in omega (arith, q_field, in_field.number)

  keeps_some : list_all (λ p. is_before p q) (terms_read new) ≡ true → KeepsLast behind (length new.fields.items) (terms_read new) (term_read new)
  keeps_some h = rw term_is (q_number, omega (arith, own_from), h)

  term_kept : at ≤ behind → IsKept past at old → IsKept (Term q.term ∷ past) behind new
  term_kept le kept =
      let c = are_closed past at old of kept in
      let same = ap length term_fields in
      let few : length old.fields.items ≤ length new.fields.items = omega (arith, same) in
      let number : q.field + 1 ≡ length old.fields.items = omega (arith, q_field, in_field.number) in
      record {
        inside = subst (λ ps. list_all (is_place behind (length new.fields.items)) ps ≡ true) (sym term_places)
            (all_more (is_place at (length old.fields.items)) (is_place behind (length new.fields.items)) (place_more at behind _ _ le few) _ c.inside);
        rising = subst (λ ps. rise ps ≡ true) (sym term_places) c.rising;
        different = subst (λ fs. differ fs ≡ true) (sym term_fields) kept.different;
        last = λ _. keeps_some (subst (λ ps. list_all (λ p. is_before p q) ps ≡ true) (sym term_places)
            (new_before at (length old.fields.items) (terms_read old) (term_read old) q (kept.last within) number above));
      }

  new_term : (end : ℕ) → open_term new.fields.items (term_read new) end ≡ record { field = last_field past; term = q.term; from = behind; to = end } ∷ []
  new_term end =
      let name : get_or new.fields.items q.field [] ≡ last_field past = ap₂ (λ xs k. get_or xs k []) term_fields q_field ∙ in_field.name in
      rw (term_is, name, own_from) refl

  term_terms : IsKept past at old → AddsTerms past (Term q.term) at behind old new
  term_terms kept end =
      ap₂ (λ x y. x ++ y) (ap₂ (λ fs ps. map (named fs) ps) term_fields term_places ∙ closed_terms old.fields.items (terms_read old) (term_read old) at) (new_term end)

  pub takes_term : Takes docs past (Term q.term) at behind old new true
  takes_term = record {
    same = sym term_allowed;
    after = λ _. term_after;
    kept = λ _. term_kept;
    terms = λ _. term_terms;
  }

  pub takes_term_as : (name : List ℕ) → q.term ≡ name → Takes docs past (Term name) at behind old new true
  takes_term_as name e = subst (λ t. Takes docs past (Term t) at behind old new true) e takes_term

-- ---- a line that is not allowed

pub takes_nothing : (docs : ℕ) (past : List Form) (form : Form) (at behind : ℕ) (old new : Opening) → is_passed past form ≡ false → is_allowed docs past form ≡ false
    → Takes docs past form at behind old new false
takes_nothing docs past form at behind old new p a = record {
  same = rw (p, a) refl;
  after = λ e. absurd (true≢false (sym e));
  kept = λ e. absurd (true≢false (sym e));
  terms = λ e. absurd (true≢false (sym e));
}

-- ---- the end

pub takes_end : (docs : ℕ) (past : List Form) (at behind : ℕ) (old mid new : Opening) (s : TableState) → IsOpeningOf past old → Moves docs past End s true
    → mid.fields.items ≡ old.fields.items → terms_read mid ≡ terms_read old → term_read mid ≡ term_read old → mid.state ≡ s
    → Closes at mid new → Takes docs past End at behind old new true
takes_end docs past at behind old mid new s of moves fs ps t st closes =
    let fields_are : new.fields.items ≡ old.fields.items = closes.fields ∙ fs in
    let places_are : terms_read new ≡ terms_read old ++ closed_at at (term_read old) = closes.places ∙ ap₂ (λ x y. x ++ closed_at at y) ps t in
    record {
      same = moves.same;
      after = λ e. record {
        state = subst (λ x. IsTableState (End ∷ past) x) (sym (closes.state ∙ st)) (moves.after refl);
        fields = fields_are ∙ of.fields;
        within = λ w. absurd (true≢false (sym w));
        outside = λ _. closed_read closes;
      };
      kept = λ e le kept.
          let c = are_closed past at old of kept in
          let n = ap length fields_are in
          let few : length old.fields.items ≤ length new.fields.items = omega (arith, n) in
          record {
            inside = subst (λ xs. list_all (is_place behind (length new.fields.items)) xs ≡ true) (sym places_are)
                (all_more (is_place at (length old.fields.items)) (is_place behind (length new.fields.items)) (place_more at behind _ _ le few) _ c.inside);
            rising = subst (λ xs. rise xs ≡ true) (sym places_are) c.rising;
            different = subst (λ xs. differ xs ≡ true) (sym fields_are) kept.different;
            last = λ w. absurd (true≢false (sym w));
          };
      terms = λ e kept end.
          ap (λ x. map (named new.fields.items) (terms_read new) ++ open_term new.fields.items x end) (closed_read closes)
          ∙ append-nil _
          ∙ ap₂ (λ x y. map (named x) y) fields_are places_are
          ∙ closed_terms old.fields.items (terms_read old) (term_read old) at;
    }

-- ---- any other line

keeps_on : (at behind n : ℕ) (places : List NumberedTerm) (term : Option NumberedTerm) → at ≤ behind → KeepsLast at n places term → KeepsLast behind n places term
keeps_on at behind n places None le h = h
keeps_on at behind n places (Some q) le h = (h.0, omega (arith, h.1), h.2)

kept_on : (past after : List Form) (at behind : ℕ) (old new : Opening) → (is_within after ≡ true → is_within past ≡ true)
    → new.fields.items ≡ old.fields.items → terms_read new ≡ terms_read old → term_read new ≡ term_read old → at ≤ behind → IsKept past at old → IsKept after behind new
kept_on past after at behind old new w fs ps t le kept = record {
  inside = subst (λ xs. list_all (is_place behind (length xs)) (terms_read new) ≡ true) (sym fs) (subst (λ xs. list_all (is_place behind (length old.fields.items)) xs ≡ true) (sym ps)
      (all_more (is_place at (length old.fields.items)) (is_place behind (length old.fields.items)) (place_more at behind _ _ le (omega arith)) _ kept.inside));
  rising = subst (λ xs. rise xs ≡ true) (sym ps) kept.rising;
  different = subst (λ xs. differ xs ≡ true) (sym fs) kept.different;
  last = λ e. rw (fs, ps, t) (keeps_on at behind (length old.fields.items) (terms_read old) (term_read old) le (kept.last (w e)));
}

abbrev HasState : Opening → TableState → Opening
HasState o s = record o { state = s }

-- a line within a field
within_line : (docs : ℕ) (past : List Form) (form : Form) (at behind : ℕ) (old : Opening) (s : TableState) (answer : Bool) → IsOpeningOf past old
    → is_passed past form ≡ false → is_within (form ∷ past) ≡ true → IsWithinWhere docs past form
    → last_field (form ∷ past) ≡ last_field past → last_term (form ∷ past) ≡ last_term past → fields (form ∷ past) ≡ fields past
    → AddsTerms past form at behind old (HasState old s) → Moves docs past form s answer → Takes docs past form at behind old (HasState old s) answer
within_line docs past form at behind old s answer of passed here needs field_is term_is fields_are adds moves = record {
  same = rw passed moves.same;
  after = λ e. rw passed (
      let o = of.within (needs (sym moves.same ∙ e)) in
      record {
        state = moves.after e;
        fields = of.fields ∙ sym fields_are;
        within = λ _. record { number = o.number; name = o.name ∙ sym field_is; term = o.term ∙ sym term_is };
        outside = λ w. absurd (true≢false (sym here ∙ w));
      });
  kept = λ e le kept. rw passed (kept_on past (form ∷ past) at behind old (HasState old s) (λ _. needs (sym moves.same ∙ e)) refl refl refl le kept);
  terms = λ _ _. adds;
}

sum_line : (docs : ℕ) (past : List Form) (at behind : ℕ) (old : Opening) (s : TableState) (answer : Bool) → IsOpeningOf past old
    → Moves docs past Checksum s answer → Takes docs past Checksum at behind old (HasState old s) answer
sum_line docs past at behind old s answer of moves = record {
  same = moves.same;
  after = λ e. record {
    state = moves.after e;
    fields = of.fields;
    within = λ w. absurd (true≢false (sym w));
    outside = λ _. of.outside (outside_end past (sym moves.same ∙ e));
  };
  kept = λ e le kept. kept_on past (Checksum ∷ past) at behind old (HasState old s) (λ w. absurd (true≢false (sym w))) refl refl refl le kept;
  terms = λ _ _ end. refl;
}

abbrev TakesBy : ℕ → List Form → Shape → List ℕ → (at behind : ℕ) → Opening → TableState → Bool → Type 0
TakesBy docs past shape.Field content at behind old s answer = Unit {0}
TakesBy docs past shape.Term content at behind old s answer = Unit {0}
TakesBy docs past shape.End content at behind old s answer = Unit {0}
TakesBy docs past shape.Indented content at behind old s answer = Unit {0}
TakesBy docs past other content at behind old s answer = Takes docs past (form_with other content) at behind old (HasState old s) answer

pub takes_by : (docs : ℕ) (past : List Form) (own : Shape) (content : List ℕ) (at behind : ℕ) (old : Opening) (s : TableState) (answer : Bool) → IsOpeningOf past old
    → MovesBy docs past own content s answer → TakesBy docs past own content at behind old s answer
takes_by docs past shape.Field content at behind old s answer of moves = tt
takes_by docs past shape.Term content at behind old s answer of moves = tt
takes_by docs past shape.End content at behind old s answer of moves = tt
takes_by docs past shape.Indented content at behind old s answer of moves = tt
takes_by docs past (shape.Doc n) content at behind old s answer of moves = within_line docs past (Doc n) at behind old s answer of refl refl (within_doc docs past n) refl refl refl (λ end. refl) moves
takes_by docs past (shape.Freq n) content at behind old s answer of moves = within_line docs past (Freq n) at behind old s answer of refl refl (within_freq docs past n) refl refl refl (λ end. refl) moves
takes_by docs past (shape.Pos n) content at behind old s answer of moves = within_line docs past (Pos n) at behind old s answer of refl refl (within_pos docs past n) refl refl refl (λ end. refl) moves
takes_by docs past shape.StartOffset content at behind old s answer of moves = within_line docs past StartOffset at behind old s answer of refl refl (within_start docs past) refl refl refl (λ end. refl) moves
takes_by docs past shape.EndOffset content at behind old s answer of moves = within_line docs past EndOffset at behind old s answer of refl refl (within_end docs past) refl refl refl (λ end. refl) moves
takes_by docs past shape.Payload content at behind old s answer of moves = within_line docs past Payload at behind old s answer of refl refl (within_payload docs past) refl refl refl (λ end. refl) moves
takes_by docs past shape.Checksum content at behind old s answer of moves = sum_line docs past at behind old s answer of moves
takes_by docs past shape.Unknown content at behind old s answer of moves =
    within_line docs past Unknown at behind old s answer of refl refl (λ e. absurd (true≢false (sym e))) refl refl refl (λ end. refl) moves

-- ---- a line of no form

is_some_place : (term : Option NumberedTerm) → is_some term ≡ is_some (place_term term)
is_some_place None = refl
is_some_place (Some p) = refl

passes_within : (past : List Form) (term : Option NumberedTerm) → place_term term ≡ last_term past → (is_some (last_term past) && true && true) ≡ is_passed past Indented
    → is_some term ≡ is_passed past Indented
passes_within past term same h = is_some_place term ∙ ap is_some same ∙ sym (and-true (is_some (last_term past) && true) ∙ and-true (is_some (last_term past))) ∙ h

passes : (past : List Form) (o : Opening) → IsOpeningOf past o → is_some (term_read o) ≡ is_passed past Indented
passes [] o of = let e = of.outside refl in rw e refl
passes (End ∷ past) o of = let e = of.outside refl in rw e (sym (and-true (is_some (last_term past) && false) ∙ and-false (is_some (last_term past))))
passes (Checksum ∷ past) o of = let e = of.outside refl in rw e (sym (and-false (is_some (last_term past) && true)))
passes (f ∷ past) o of = passes_within (f ∷ past) (term_read o) (of.within refl).term refl

some_read : (names : List ℕ) (term : Option Place) → is_some (option_map (numbered names) term) ≡ is_some term
some_read names None = refl
some_read names (Some p) = refl

pub takes_passed : (docs : ℕ) (past : List Form) (at behind : ℕ) (o : Opening) → IsOpeningOf past o → Takes docs past Indented at behind o o (is_some o.term)
takes_passed docs past at behind o of =
    let is = sym (some_read o.names.items o.term) ∙ passes past o of in
    let own : past_after past Indented ≡ (if is_passed past Indented then past else Indented ∷ past) = refl in
    record {
      same = is ∙ sym (or-false _);
      after = λ e. let passed = sym is ∙ e in rw passed of;
      kept = λ e le kept. let passed = sym is ∙ e in rw passed (kept_on past past at behind o o (λ w. w) refl refl refl le kept);
      terms = λ _ _ end. refl;
    }

pub takes_other : (docs : ℕ) (past : List Form) (own : Shape) (content : List ℕ) (at behind : ℕ) (old : Opening) (s : TableState) (answer : Bool) → IsOpeningOf past old
    → (own ≡ shape.Field → ⊥) → (own ≡ shape.Term → ⊥) → (own ≡ shape.End → ⊥) → (own ≡ shape.Indented → ⊥)
    → MovesBy docs past own content s answer → Takes docs past (form_with own content) at behind old (HasState old s) answer
takes_other docs past shape.Field content at behind old s answer of a b c d moves = absurd (a refl)
takes_other docs past shape.Term content at behind old s answer of a b c d moves = absurd (b refl)
takes_other docs past shape.End content at behind old s answer of a b c d moves = absurd (c refl)
takes_other docs past shape.Indented content at behind old s answer of a b c d moves = absurd (d refl)
takes_other docs past (shape.Doc n) content at behind old s answer of a b c d moves = takes_by docs past (shape.Doc n) content at behind old s answer of moves
takes_other docs past (shape.Freq n) content at behind old s answer of a b c d moves = takes_by docs past (shape.Freq n) content at behind old s answer of moves
takes_other docs past (shape.Pos n) content at behind old s answer of a b c d moves = takes_by docs past (shape.Pos n) content at behind old s answer of moves
takes_other docs past shape.StartOffset content at behind old s answer of a b c d moves = takes_by docs past shape.StartOffset content at behind old s answer of moves
takes_other docs past shape.EndOffset content at behind old s answer of a b c d moves = takes_by docs past shape.EndOffset content at behind old s answer of moves
takes_other docs past shape.Payload content at behind old s answer of a b c d moves = takes_by docs past shape.Payload content at behind old s answer of moves
takes_other docs past shape.Checksum content at behind old s answer of a b c d moves = takes_by docs past shape.Checksum content at behind old s answer of moves
takes_other docs past shape.Unknown content at behind old s answer of a b c d moves = takes_by docs past shape.Unknown content at behind old s answer of moves
