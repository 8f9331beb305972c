-- The lines of each document by themselves say what they say in the whole text.
use Rattle.std.proofs.Common.{◌≡◌, ℕ, zero, suc, ◌+◌, ◌-◌, ◌<◌, ◌≤◌, ◌∙◌, ap, sym, subst, refl, arith, Bool, true, false, List, [], ◌∷◌, ◌++◌, length, take, drop, Ok, Err}
use Rattle.std.specs.Prelude.{Option, Some, None, Result, ◌==◌, ◌&&◌, ◌||◌, nat_lt, if◌then◌else◌, slice_index, slice_get}
use Rattle.std.proofs.Math.Seq.{take-add}
use Rattle.std.proofs.lemmas.List.{length-drop}
use Rattle.std.proofs.lemmas.Bool.{and_parts, or_from}
use Rattle.std.proofs.lemmas.Bool.Decides.{nat_tests}
use Rattle.directory_input.specs.Reads.{slice_of}
use Rattle.directory_input.proofs.Slices.{drop_drop}
use Rattle.text_lines.specs.Lines.{Taken, Cut, cut}
use Rattle.text_lines.specs.Walks.{then_lines}
use Rattle.simpletext_stored.specs.Reading.{Lines, in_front, lines_after, lines_of, map_ok}
use Rattle.simpletext_stored.specs.Stored.{form_of, last, doc_count, is_start, is_between, is_field, is_name, is_type, is_end, is_checksum_line, is_allowed, may_end, own_fields, documents, line_places}
use Rattle.simpletext_stored.specs.Steps.{is_own, is_whole, is_over, all_fields, document_of}
use Rattle.simpletext_stored.specs.declared.field.Kind.{Kind}
use Rattle.simpletext_stored.specs.declared.field.Kind.TheVariants.{Str}
use Rattle.simpletext_stored.specs.declared.field.StoredField.{StoredField}
use Rattle.simpletext_stored.specs.declared.form.Form.{Form}
use Rattle.simpletext_stored.specs.declared.form.Form.TheVariants.{Doc, Field, Name, OfType, Value, End, Checksum, Unknown}
use Rattle.simpletext_stored.proofs.Firsts.{cut_of, IsFirst, first_of}

-- ---- one line of a text that is right

module _ {F : Type 0} (form : List ℕ → F) (allowed : List F → F → Bool) (may_end : List F → Bool) where
  -- the first line may stand there, and the lines behind it are right
  pub record IsNext (past : List F) (at : ℕ) (l : Taken) (ls : List Taken) (tail : Taken) (kept later : Lines F) : Type 0 where
    pub short : nat_lt 16777216 l.size ≡ false
    pub may : allowed past (form l.content) ≡ true
    pub rest : lines_after form allowed may_end (form l.content ∷ past) (at + l.size) ls tail ≡ Ok later
    pub kept_is : kept ≡ (at, form l.content, l.content) ∷ later

  behind : (past : List F) (at : ℕ) (l : Taken) (ls : List Taken) (tail : Taken) (kept : Lines F) (r : Result (Lines F) ℕ)
      → nat_lt 16777216 l.size ≡ false → allowed past (form l.content) ≡ true
      → lines_after form allowed may_end (form l.content ∷ past) (at + l.size) ls tail ≡ r
      → in_front (at, form l.content, l.content) r ≡ Ok kept → (later : Lines F) × IsNext past at l ls tail kept later
  behind past at l ls tail kept (Ok later) short may is h = (later, record { short = short; may = may; rest = is; kept_is = cc })
  behind past at l ls tail kept (Err p) short may is h = absurd (cc)

  by_tests : (past : List F) (at : ℕ) (l : Taken) (ls : List Taken) (tail : Taken) (kept : Lines F) (long may : Bool)
      → nat_lt 16777216 l.size ≡ long → allowed past (form l.content) ≡ may
      → (if long then Err at else if may then in_front (at, form l.content, l.content) (lines_after form allowed may_end (form l.content ∷ past) (at + l.size) ls tail) else Err at) ≡ Ok kept
      → (later : Lines F) × IsNext past at l ls tail kept later
  by_tests past at l ls tail kept true may a b h = absurd (cc)
  by_tests past at l ls tail kept false false a b h = absurd (cc)
  by_tests past at l ls tail kept false true a b h = behind past at l ls tail kept _ a b refl h

  pub next_of : (past : List F) (at : ℕ) (l : Taken) (ls : List Taken) (tail : Taken) (kept : Lines F) → lines_after form allowed may_end past at (l ∷ ls) tail ≡ Ok kept
      → (later : Lines F) × IsNext past at l ls tail kept later
  next_of past at l ls tail kept h = by_tests past at l ls tail kept _ _ refl refl h

  by_end : (past : List F) (at : ℕ) (tail : Taken) (kept : Lines F) (b : Bool) → (if b then Ok [] else Err at) ≡ Ok kept → (b ≡ true) × (kept ≡ [])
  by_end past at tail kept true h = (refl, cc)
  by_end past at tail kept false h = absurd (cc)

  pub end_of : (past : List F) (at : ℕ) (tail : Taken) (kept : Lines F) → lines_after form allowed may_end past at [] tail ≡ Ok kept → (may_end past ≡ true) × (kept ≡ [])
  end_of past at tail kept h =
      let e = by_end past at tail kept ((tail.size == 0) && may_end past) h in
      ((and_parts (tail.size == 0) (may_end past) e.0).1, e.1)

-- ---- what may stand where

-- a document has begun, and the END line has not come
abbrev is_inside : Option Form → Bool
is_inside None = false
is_inside (Some (Doc n)) = true
is_inside (Some Field) = true
is_inside (Some Name) = true
is_inside (Some (OfType kind)) = true
is_inside (Some Value) = true
is_inside (Some End) = false
is_inside (Some Checksum) = false
is_inside (Some Unknown) = false

not_at_end : (o : Option Form) → is_inside o ≡ true → (is_checksum_line o ≡ false) × (is_end o ≡ false) × (is_start o ≡ false)
not_at_end None h = absurd (cc)
not_at_end (Some (Doc n)) h = (refl, refl, refl)
not_at_end (Some Field) h = (refl, refl, refl)
not_at_end (Some Name) h = (refl, refl, refl)
not_at_end (Some (OfType kind)) h = (refl, refl, refl)
not_at_end (Some Value) h = (refl, refl, refl)
not_at_end (Some End) h = absurd (cc)
not_at_end (Some Checksum) h = absurd (cc)
not_at_end (Some Unknown) h = absurd (cc)

over_not : (o : Option Form) → is_over o ≡ true → (is_start o ≡ false) × (is_between o ≡ false) × (is_field o ≡ false) × (is_name o ≡ false) × (is_type o ≡ false)
over_not None h = absurd (cc)
over_not (Some (Doc n)) h = absurd (cc)
over_not (Some Field) h = absurd (cc)
over_not (Some Name) h = absurd (cc)
over_not (Some (OfType kind)) h = absurd (cc)
over_not (Some Value) h = absurd (cc)
over_not (Some End) h = (refl, refl, refl, refl, refl)
over_not (Some Checksum) h = (refl, refl, refl, refl, refl)
over_not (Some Unknown) h = absurd (cc)

-- a whole document stands before its END line and before the next document
whole_before : (docs : ℕ) (past : List Form) (f : Form) → (is_start (last past) || is_between (last past)) ≡ true → is_inside (last past) ≡ true → is_between (last past) ≡ true
whole_before docs past f h inside = rw (not_at_end (last past) inside).2 at h

module _ (docs : ℕ) where
  abbrev next : List Form → ℕ → List Taken → Taken → Result (Lines Form) ℕ
  next past at ls tail = lines_after form_of (is_allowed docs) may_end past at ls tail

  over_form : (past : List Form) (at : ℕ) (f : Form) (content : List ℕ) (later : Lines Form) → is_over (last past) ≡ true → is_allowed docs past f ≡ true
      → (is_over (Some f) ≡ true → line_places later ≡ []) → line_places ((at, f, content) ∷ later) ≡ []
  over_form past at (Doc k) content later over may ih =
      let n = over_not (last past) over in
      let p = (and_parts (is_start (last past) || is_between (last past)) (k == doc_count past) (and_parts _ _ may).0).0 in
      let q = or_from _ _ n.0 n.1 in
      absurd (cc (p, q))
  over_form past at Field content later over may ih = let n = over_not (last past) over in absurd (cc (n.1, may))
  over_form past at Name content later over may ih = let n = over_not (last past) over in absurd (cc (n.2, may))
  over_form past at (OfType kind) content later over may ih = let n = over_not (last past) over in absurd (cc (n.3, may))
  over_form past at Value content later over may ih = let n = over_not (last past) over in absurd (cc (n.4, may))
  over_form past at End content later over may ih =
      let n = over_not (last past) over in
      let p = (and_parts (is_start (last past) || is_between (last past)) (doc_count past == docs) may).0 in
      let q = or_from _ _ n.0 n.1 in
      absurd (cc (p, q))
  over_form past at Checksum content later over may ih = ih refl
  over_form past at Unknown content later over may ih = absurd (cc)

  -- behind the documents no place stands
  over_places : (ls : List Taken) (tail : Taken) (past : List Form) (at : ℕ) (kept : Lines Form) → is_over (last past) ≡ true → next past at ls tail ≡ Ok kept → line_places kept ≡ []
  over_places [] tail past at kept over h = rw (end_of form_of (is_allowed docs) may_end past at tail kept h).1 refl
  over_places (l ∷ ls) tail past at kept over h =
      let (later, n) = next_of form_of (is_allowed docs) may_end past at l ls tail kept h in
      rw n.kept_is (over_form past at (form_of l.content) l.content later over n.may (λ o. over_places ls tail (form_of l.content ∷ past) (at + l.size) later o n.rest))

  -- ---- the fields of a document

  module _ (doc : ℕ) where
    abbrev own_next : List Form → ℕ → Cut → Result (Lines Form) ℕ
    own_next own at c = lines_after form_of (is_own doc) is_whole own at c.lines c.tail

    -- the lines up to the next document or the END line give the same fields by themselves
    pub record IsOwnPart (s : List ℕ) (own : List Form) (at : ℕ) (kept : Lines Form) : Type 0 where
      pub size : ℕ
      pub others : List ℕ
      pub places : line_places kept ≡ (at + size) ∷ others
      pub inside : size ≤ length s
      pub reads : (r : ℕ) (name : List ℕ) (kind : Kind) → map_ok (all_fields name kind) (own_next own r (cut (take size s))) ≡ Ok (own_fields name kind kept)

    -- nothing before the next document or the END line
    nothing_left : (s : List ℕ) (own : List Form) (at : ℕ) (f : Form) (content : List ℕ) (later : Lines Form) → is_whole own ≡ true
        → line_places ((at, f, content) ∷ later) ≡ at ∷ line_places later
        → ((name : List ℕ) (kind : Kind) → own_fields name kind ((at, f, content) ∷ later) ≡ [])
        → IsOwnPart s own at ((at, f, content) ∷ later)
    unfolding cut
    nothing_left s own at f content later whole places none =
        let e : at + 0 ≡ at = omega arith in
        record {
          size = 0;
          others = line_places later;
          places = rw e places;
          inside = omega arith;
          reads = λ r name kind. rw (whole, none name kind) refl;
        }

    map_front : (name name' : List ℕ) (kind kind' : Kind) (line : ℕ × Form × List ℕ) (before after : List StoredField) (r : Result (Lines Form) ℕ)
        → map_ok (all_fields name' kind') r ≡ Ok after
        → ((later : Lines Form) → all_fields name kind (line ∷ later) ≡ before ++ all_fields name' kind' later)
        → map_ok (all_fields name kind) (in_front line r) ≡ Ok (before ++ after)
    map_front name name' kind kind' line before after (Ok later) h all =
        let e : all_fields name' kind' later ≡ after = cc in
        ap Ok (all later ∙ ap (λ x. before ++ x) e)
    map_front name name' kind kind' line before after (Err p) h all = absurd (cc)

    -- a line of a field in front
    module _ (l : Taken) (ls : List Taken) (tail : Taken) (s : List ℕ) (own : List Form) (at : ℕ) (f : Form) (later : Lines Form)
        (first : IsFirst s l ls tail) (short : nat_lt 16777216 l.size ≡ false) (form_is : form_of l.content ≡ f) (may : is_own doc own f ≡ true)
        (part : IsOwnPart (drop l.size s) (f ∷ own) (at + l.size) later) where
      line_in_front : line_places ((at, f, l.content) ∷ later) ≡ line_places later
          → ((r : ℕ) (name : List ℕ) (kind : Kind) → map_ok (all_fields name kind) (in_front (r, f, l.content) (own_next (f ∷ own) (r + l.size) (cut (take part.size (drop l.size s))))) ≡ Ok (own_fields name kind ((at, f, l.content) ∷ later)))
          → IsOwnPart s own at ((at, f, l.content) ∷ later)
      line_in_front places reads =
          let a = first.inside in
          let b = part.inside in
          let len = length-drop l.size s in
          let e : at + l.size + part.size ≡ at + (l.size + part.size) = omega arith in
          let cuts : cut (take (l.size + part.size) s) ≡ then_lines l (cut (take part.size (drop l.size s))) = ap cut (take-add l.size part.size s) ∙ first.alone (take part.size (drop l.size s)) in
          let may' : is_own doc own (form_of l.content) ≡ true = rw form_is may in
          record {
            size = l.size + part.size;
            others = part.others;
            places = places ∙ part.places ∙ ap (λ k. k ∷ part.others) e;
            inside = omega arith;
            reads = λ r name kind. rw (cuts, short, may', form_is) (reads r name kind);
          }

    module _ (l : Taken) (ls : List Taken) (tail : Taken) (s : List ℕ) (past own : List Form) (at : ℕ) (later : Lines Form)
        (first : IsFirst s l ls tail) (short : nat_lt 16777216 l.size ≡ false) (in_doc : is_inside (last past) ≡ true) (same : last own ≡ last past) where
      own_form : (f : Form) → form_of l.content ≡ f → is_allowed docs past f ≡ true
          → (is_inside (Some f) ≡ true → IsOwnPart (drop l.size s) (f ∷ own) (at + l.size) later)
          → IsOwnPart s own at ((at, f, l.content) ∷ later)
      own_form (Doc n) is may ih =
          let p = (and_parts (is_start (last past) || is_between (last past)) (n == doc_count past) (and_parts _ _ may).0).0 in
          nothing_left s own at (Doc n) l.content later (ap is_between same ∙ (rw (not_at_end (last past) in_doc).2 at p)) refl (λ name kind. refl)
      own_form End is may ih =
          let p = (and_parts (is_start (last past) || is_between (last past)) (doc_count past == docs) may).0 in
          nothing_left s own at End l.content later (ap is_between same ∙ (rw (not_at_end (last past) in_doc).2 at p)) refl (λ name kind. refl)
      own_form Field is may ih =
          let part = ih refl in
          line_in_front l ls tail s own at Field later first short is (ap is_between same ∙ may) part refl
          (λ r name kind. map_front name name kind kind _ [] _ _ (part.reads (r + l.size) name kind) (λ more. refl))
      own_form Name is may ih =
          let part = ih refl in
          line_in_front l ls tail s own at Name later first short is (ap is_field same ∙ may) part refl
          (λ r name kind. map_front name (drop 9 l.content) kind kind _ [] _ _ (part.reads (r + l.size) (drop 9 l.content) kind) (λ more. refl))
      own_form (OfType k) is may ih =
          let part = ih refl in
          line_in_front l ls tail s own at (OfType k) later first short is (ap is_name same ∙ may) part refl
          (λ r name kind. map_front name name kind k _ [] _ _ (part.reads (r + l.size) name k) (λ more. refl))
      own_form Value is may ih =
          let part = ih refl in
          line_in_front l ls tail s own at Value later first short is (ap is_type same ∙ may) part refl
          (λ r name kind. map_front name name kind kind _ (record { name = name; kind = kind; value = drop 10 l.content } ∷ []) _ _ (part.reads (r + l.size) name kind) (λ more. refl))
      own_form Checksum is may ih = let n = (not_at_end (last past) in_doc).1 in absurd (cc (n, may))
      own_form Unknown is may ih = absurd (cc)

    own_part : (ls : List Taken) (tail : Taken) (s : List ℕ) (past own : List Form) (at : ℕ) (kept : Lines Form) → cut s ≡ cut_of ls tail
        → is_inside (last past) ≡ true → last own ≡ last past → next past at ls tail ≡ Ok kept → IsOwnPart s own at kept
    own_part [] tail s past own at kept is in_doc same h =
        let e = (end_of form_of (is_allowed docs) may_end past at tail kept h).0 in
        let n = (not_at_end (last past) in_doc).0 in
        absurd (cc (e, n))
    own_part (l ∷ ls) tail s past own at kept is in_doc same h =
        let (later, n) = next_of form_of (is_allowed docs) may_end past at l ls tail kept h in
        let first = first_of s l ls tail is in
        let f = form_of l.content in
        subst (IsOwnPart s own at) (sym n.kept_is)
        (own_form l ls tail s past own at later first n.short in_doc same f refl n.may
        (λ i. own_part ls tail (drop l.size s) (f ∷ past) (f ∷ own) (at + l.size) later first.later i refl n.rest))

  -- ---- each document

  -- document number `d` of those from here on: its fields, and the bytes of its lines by themselves
  pub record HasLines (s : List ℕ) (past : List Form) (at : ℕ) (kept : Lines Form) (d : ℕ) : Type 0 where
    pub fields : List StoredField
    pub low : at ≤ slice_index (line_places kept) d
    pub is : slice_get (documents kept) d ≡ Some fields
    pub reads : document_of (doc_count past + d) (slice_of (slice_index (line_places kept) d - at) (slice_index (line_places kept) (d + 1) - slice_index (line_places kept) d) s) ≡ Ok fields

  module _ (l : Taken) (ls : List Taken) (tail : Taken) (s : List ℕ) (past : List Form) (at : ℕ) (f : Form) (later : Lines Form)
      (first : IsFirst s l ls tail) (short : nat_lt 16777216 l.size ≡ false) (form_is : form_of l.content ≡ f) where
    -- a document behind the first line, whose number is `e` behind that line
    behind_line : (places : List ℕ) (docs_from : List (List StoredField)) (d e : ℕ)
        → HasLines (drop l.size s) (f ∷ past) (at + l.size) later e
        → doc_count (f ∷ past) + e ≡ doc_count past + d
        → slice_index places d ≡ slice_index (line_places later) e → slice_index places (d + 1) ≡ slice_index (line_places later) (e + 1)
        → slice_get docs_from d ≡ slice_get (documents later) e
        → line_places ((at, f, l.content) ∷ later) ≡ places → documents ((at, f, l.content) ∷ later) ≡ docs_from
        → HasLines s past at ((at, f, l.content) ∷ later) d
    behind_line places docs_from d e h number here there same places_is docs_is =
        let p = slice_index (line_places later) e in
        let q = slice_index (line_places later) (e + 1) in
        let low = h.low in
        let shift : l.size + (p - (at + l.size)) ≡ p - at = omega (arith, low) in
        let bytes : slice_of (p - at) (q - p) s ≡ slice_of (p - (at + l.size)) (q - p) (drop l.size s) =
        ap (λ k. take (q - p) (drop k s)) (sym shift) ∙ ap (take (q - p)) (sym (drop_drop l.size (p - (at + l.size)) s)) in
        let least : at ≤ p = omega (arith, low) in
        record {
          fields = h.fields;
          low = rw (places_is, here) least;
          is = rw docs_is (same ∙ h.is);
          reads = rw (places_is, here, there, bytes, sym number) h.reads;
        }

    -- the document that the first line begins
    this_doc : (n : ℕ) → f ≡ Doc n → is_allowed docs past (Doc n) ≡ true → IsOwnPart n (drop l.size s) (Doc n ∷ []) (at + l.size) later
        → HasLines s past at ((at, Doc n, l.content) ∷ later) 0
    this_doc n is may part =
        let tests = and_parts (is_start (last past) || is_between (last past)) (n == doc_count past) (and_parts _ _ may).0 in
        let number : n ≡ doc_count past + 0 = grind (arith, nat_tests, tests.1) in
        let own_number : (n == n) ≡ true = grind (arith, nat_tests) in
        let own_form : form_of l.content ≡ Doc n = form_is ∙ is in
        let size : at + l.size + part.size - at ≡ l.size + part.size = omega arith in
        let zero_from : at - at ≡ 0 = omega arith in
        let cuts : cut (take (l.size + part.size) s) ≡ then_lines l (cut (take part.size (drop l.size s))) = ap cut (take-add l.size part.size s) ∙ first.alone (take part.size (drop l.size s)) in
        record {
          fields = own_fields [] Str later;
          low = omega arith;
          is = refl;
          reads = rw (part.places, sym number, size, zero_from, cuts, short, own_form, own_number)
              (map_front n [] [] Str Str (0, Doc n, l.content) [] (own_fields [] Str later) _ (part.reads (0 + l.size) [] Str) (λ more. refl));
        }

  doc_behind : (l : Taken) (ls : List Taken) (tail : Taken) (s : List ℕ) (past : List Form) (at : ℕ) (later : Lines Form) (n : ℕ)
      → IsFirst s l ls tail → nat_lt 16777216 l.size ≡ false → form_of l.content ≡ Doc n → is_allowed docs past (Doc n) ≡ true
      → IsOwnPart n (drop l.size s) (Doc n ∷ []) (at + l.size) later
      → ((e : ℕ) → e + 1 < length (line_places later) → HasLines (drop l.size s) (Doc n ∷ past) (at + l.size) later e)
      → (d : ℕ) → d + 1 < length (line_places later) + 1 → HasLines s past at ((at, Doc n, l.content) ∷ later) d
  doc_behind l ls tail s past at later n first short is may part each zero lt = this_doc l ls tail s past at (Doc n) later first short is n refl may part
  doc_behind l ls tail s past at later n first short is may part each (suc e) lt =
      let next_place : suc e + 1 ≡ suc (e + 1) = omega arith in
      let number : doc_count past + 1 + e ≡ doc_count past + suc e = omega arith in
      behind_line l ls tail s past at (Doc n) later first short is (at ∷ line_places later) (own_fields [] Str later ∷ documents later) (suc e) e
      (each e (omega (arith, lt))) number refl (ap (slice_index (at ∷ line_places later)) next_place) refl refl refl

  form_behind : (l : Taken) (ls : List Taken) (tail : Taken) (s : List ℕ) (past : List Form) (at : ℕ) (later : Lines Form)
      → IsFirst s l ls tail → nat_lt 16777216 l.size ≡ false → (f : Form) → form_of l.content ≡ f → is_allowed docs past f ≡ true
      → ((n : ℕ) → f ≡ Doc n → IsOwnPart n (drop l.size s) (f ∷ []) (at + l.size) later)
      → (is_over (Some f) ≡ true → line_places later ≡ [])
      → ((e : ℕ) → e + 1 < length (line_places later) → HasLines (drop l.size s) (f ∷ past) (at + l.size) later e)
      → (d : ℕ) → d + 1 < length (line_places ((at, f, l.content) ∷ later)) → HasLines s past at ((at, f, l.content) ∷ later) d
  form_behind l ls tail s past at later first short (Doc n) is may part over each d lt =
      doc_behind l ls tail s past at later n first short is may (part n refl) each d (omega (arith, lt))
  form_behind l ls tail s past at later first short Field is may part over each d lt =
      behind_line l ls tail s past at Field later first short is (line_places later) (documents later) d d (each d lt) refl refl refl refl refl refl
  form_behind l ls tail s past at later first short Name is may part over each d lt =
      behind_line l ls tail s past at Name later first short is (line_places later) (documents later) d d (each d lt) refl refl refl refl refl refl
  form_behind l ls tail s past at later first short (OfType kind) is may part over each d lt =
      behind_line l ls tail s past at (OfType kind) later first short is (line_places later) (documents later) d d (each d lt) refl refl refl refl refl refl
  form_behind l ls tail s past at later first short Value is may part over each d lt =
      behind_line l ls tail s past at Value later first short is (line_places later) (documents later) d d (each d lt) refl refl refl refl refl refl
  form_behind l ls tail s past at later first short End is may part over each d lt =
      let none : length (line_places later) ≡ 0 = ap length (over refl) in
      absurd (omega (arith, lt, none))
  form_behind l ls tail s past at later first short Checksum is may part over each d lt =
      behind_line l ls tail s past at Checksum later first short is (line_places later) (documents later) d d (each d lt) refl refl refl refl refl refl
  form_behind l ls tail s past at later first short Unknown is may part over each d lt = absurd (cc)

  doc_inside : (f : Form) (n : ℕ) → f ≡ Doc n → is_inside (Some f) ≡ true
  doc_inside (Doc k) n is = refl
  doc_inside Field n is = absurd (cc)
  doc_inside Name n is = absurd (cc)
  doc_inside (OfType kind) n is = absurd (cc)
  doc_inside Value n is = absurd (cc)
  doc_inside End n is = absurd (cc)
  doc_inside Checksum n is = absurd (cc)
  doc_inside Unknown n is = absurd (cc)

  each_document : (ls : List Taken) (tail : Taken) (s : List ℕ) (past : List Form) (at : ℕ) (kept : Lines Form) → cut s ≡ cut_of ls tail → next past at ls tail ≡ Ok kept
      → (d : ℕ) → d + 1 < length (line_places kept) → HasLines s past at kept d
  each_document [] tail s past at kept is h d lt =
      let none : length (line_places kept) ≡ 0 = ap (λ k. length (line_places k)) (end_of form_of (is_allowed docs) may_end past at tail kept h).1 in
      absurd (omega (arith, lt, none))
  each_document (l ∷ ls) tail s past at kept is h d lt =
      let (later, n) = next_of form_of (is_allowed docs) may_end past at l ls tail kept h in
      let first = first_of s l ls tail is in
      let f = form_of l.content in
      let lt' : d + 1 < length (line_places ((at, f, l.content) ∷ later)) = subst (λ k. d + 1 < length (line_places k)) n.kept_is lt in
      subst (λ k. HasLines s past at k d) (sym n.kept_is)
      (form_behind l ls tail s past at later first n.short f refl n.may
      (λ k doc. own_part k ls tail (drop l.size s) (f ∷ past) (f ∷ []) (at + l.size) later first.later (doc_inside f k doc) refl n.rest)
      (λ over. over_places ls tail (f ∷ past) (at + l.size) later over n.rest)
      (λ e lt. each_document ls tail (drop l.size s) (f ∷ past) (at + l.size) later first.later n.rest e lt)
      d lt')

-- ---- what an index's places say

-- document number `d` of a text: what its lines by themselves say, and that it is the text's
pub record IsDocument (text : List ℕ) (docs : ℕ) (places : List ℕ) (d : ℕ) : Type 0 where
  pub fields : List StoredField
  pub documents_are : List (List StoredField)
  pub said : map_ok documents (lines_of form_of (is_allowed docs) may_end text) ≡ Ok documents_are
  pub is : slice_get documents_are d ≡ Some fields
  pub reads : document_of d (slice_of (slice_index places d) (slice_index places (d + 1) - slice_index places d) text) ≡ Ok fields

of_kept : (text : List ℕ) (docs : ℕ) (places : List ℕ) (d : ℕ) (kept : Lines Form) → lines_of form_of (is_allowed docs) may_end text ≡ Ok kept → line_places kept ≡ places
    → HasLines docs text [] 0 kept d → IsDocument text docs places d
of_kept text docs places d kept is same own =
    let number : 0 + d ≡ d = omega arith in
    let from : slice_index (line_places kept) d - 0 ≡ slice_index (line_places kept) d = omega arith in
    let reads = rw (number, from, same) at own.reads in
    record { fields = own.fields; documents_are = documents kept; said = ap (map_ok documents) is; is = own.is; reads = reads }

in_text : (text : List ℕ) (docs : ℕ) (places : List ℕ) (d : ℕ) (r : Result (Lines Form) ℕ) → lines_of form_of (is_allowed docs) may_end text ≡ r → map_ok line_places r ≡ Ok places
    → d + 1 < length places → IsDocument text docs places d
in_text text docs places d (Ok kept) is h lt =
    let same : line_places kept ≡ places = cc in
    let lt' : d + 1 < length (line_places kept) = subst (λ (p : List ℕ). d + 1 < length p) (sym same) lt in
    of_kept text docs places d kept is same (each_document docs (cut text).lines (cut text).tail text [] 0 kept refl is d lt')
in_text text docs places d (Err p) is h lt = absurd (cc)

pub document_in : (text : List ℕ) (docs : ℕ) (places : List ℕ) (d : ℕ) → map_ok line_places (lines_of form_of (is_allowed docs) may_end text) ≡ Ok places → d + 1 < length places
    → IsDocument text docs places d
document_in text docs places d h lt = in_text text docs places d _ refl h lt
