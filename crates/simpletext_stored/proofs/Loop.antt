-- A text as it is read line by line, by any table.
use Rattle.std.proofs.Common.{◌≡◌, ℕ, ◌+◌, ◌-◌, ◌<◌, ◌≤◌, ◌∙◌, ap, sym, subst, refl, arith, append_assoc, append-nil, Bool, true, false, List, [], ◌∷◌, ◌++◌, drop, Ok, Err}
use Rattle.std.specs.Prelude.{IsTrue, Result, nat_lt, ◌==◌}
use Rattle.std.proofs.lemmas.Bool.Decides.{nat_tests}
use Rattle.text_lines.specs.Lines.{Taken, Cut, cut}
use Rattle.text_lines.specs.Walks.{taken, then_lines, first_size}
use Rattle.directory_input.specs.Windows.{Window, moved_to, window_bytes}
use Rattle.text_lines.specs.Readers.{Names, Refuses, GivesLine, Places, rest, line_answer, error_refusal}
use Rattle.text_lines.specs.declared.reader.Line.{Line}
use Rattle.text_lines.specs.Errors.{text_error, bytes_refusal}
use Rattle.text_lines.specs.declared.reader.LineError.{LineError}
use Rattle.text_lines.specs.declared.reader.LineError.TheVariants.{Unended, TooLong, Bytes}
use Rattle.simpletext_stored.specs.Reading.{Lines, Takes, Holds, in_front, lines_after, lines_of}
use Rattle.simpletext_stored.specs.Answers.{Breaks}

-- lines in front of those that come
abbrev pub put_lines : {F : Type 0} → Lines F → Result (Lines F) ℕ → Result (Lines F) ℕ
put_lines kept (Ok later) = Ok (kept ++ later)
put_lines kept (Err at) = Err at

-- what the text says from a place on
abbrev pub from : {F : Type 0} → (List ℕ → F) → (List F → F → Bool) → (List F → Bool) → List F → ℕ → Cut → Result (Lines F) ℕ
from form allowed may_end past at c = lines_after form allowed may_end past at c.lines c.tail

put_none : {F : Type 0} (r : Result (Lines F) ℕ) → r ≡ put_lines [] r
put_none (Ok lines) = refl
put_none (Err at) = refl

put_more : {F : Type 0} (kept : Lines F) (line : ℕ × F × List ℕ) (r : Result (Lines F) ℕ) → put_lines kept (in_front line r) ≡ put_lines (kept ++ line ∷ []) r
put_more kept line (Ok lines) = ap Ok (sym (append_assoc kept (line ∷ []) lines))
put_more kept line (Err at) = refl

module _ {F : Type 0} (form : List ℕ → F) (allowed : List F → F → Bool) (may_end : List F → Bool) where
  -- up to the place `at` the text has the lines `kept`, and behind it what those in `past` allow
  pub record Reached (text : List ℕ) (past : List F) (kept : Lines F) (at : ℕ) : Type 0 where
    pub so_far : lines_of form allowed may_end text ≡ put_lines kept (from form allowed may_end past at (cut (drop at text)))

  pub begin : (text : List ℕ) → Reached text [] [] 0
  begin text = record { so_far = put_none (lines_of form allowed may_end text) }

  module _ (text : List ℕ) (past : List F) (kept : Lines F) (at : ℕ) (reached : Reached text past kept at) where
    -- a line that may stand here
    pub more : (content : List ℕ) (now : ℕ) → cut (drop at text) ≡ then_lines (taken content (now - at)) (cut (drop now text))
        → now - at ≤ 16777216 → at < now → allowed past (form content) ≡ true
        → Reached text (form content ∷ past) (kept ++ (at, form content, content) ∷ []) now
    more content now line fits moved may =
        let short : nat_lt 16777216 (now - at) ≡ false = grind (arith, nat_tests) in
        let place : at + (now - at) ≡ now = omega arith in
        record {
          so_far = reached.so_far
              ∙ ap (λ c. put_lines kept (from form allowed may_end past at c)) line
              ∙ rw (short, may, place) (put_more kept (at, form content, content) (from form allowed may_end (form content ∷ past) now (cut (drop now text))));
        }

    -- a line that may not stand here
    pub refused : (content : List ℕ) (now : ℕ) → cut (drop at text) ≡ then_lines (taken content (now - at)) (cut (drop now text))
        → now - at ≤ 16777216 → allowed past (form content) ≡ false → lines_of form allowed may_end text ≡ Err at
    refused content now line fits may =
        let short : nat_lt 16777216 (now - at) ≡ false = grind (arith, nat_tests) in
        reached.so_far
        ∙ ap (λ c. put_lines kept (from form allowed may_end past at c)) line
        ∙ rw (short, may) refl

    too_long : (ls : List Taken) (tail : Taken) → 16777216 < first_size (record { lines = ls; tail = tail }) → from form allowed may_end past at (record { lines = ls; tail = tail }) ≡ Err at
    too_long [] tail long =
        let some : (tail.size == 0) ≡ false = grind (arith, nat_tests) in
        rw some refl
    too_long (l ∷ ls) tail long =
        let over : nat_lt 16777216 l.size ≡ true = grind (arith, nat_tests) in
        rw over refl

    unended : (ls : List Taken) (tail : Taken) → ls ≡ [] → 0 < first_size (record { lines = ls; tail = tail }) → from form allowed may_end past at (record { lines = ls; tail = tail }) ≡ Err at
    unended [] tail none some =
        let left : (tail.size == 0) ≡ false = grind (arith, nat_tests) in
        rw left refl
    unended (l ∷ ls) tail none some = absurd (cc)

    -- the next line does not end, or is too long
    pub not_a_line : (e : LineError) → Names at e → Refuses e (drop at text) → Breaks (lines_of form allowed may_end text) (text_error e)
    not_a_line (TooLong p) named long =
        reached.so_far ∙ ap (put_lines kept) (too_long (cut (drop at text)).lines (cut (drop at text)).tail long) ∙ ap Err (sym named)
    not_a_line (Unended p) named ends =
        reached.so_far ∙ ap (put_lines kept) (unended (cut (drop at text)).lines (cut (drop at text)).tail ends.0 ends.1) ∙ ap Err (sym named)
    not_a_line (Bytes e) named any = tt

    -- the text ends here
    pub ended : drop at text ≡ [] → may_end past ≡ true → lines_of form allowed may_end text ≡ Ok kept
    unfolding cut
    ended none may =
        reached.so_far
        ∙ ap (λ x. put_lines kept (from form allowed may_end past at (cut x))) none
        ∙ rw may (ap Ok (append-nil kept))

    pub ended_early : drop at text ≡ [] → may_end past ≡ false → lines_of form allowed may_end text ≡ Err at
    unfolding cut
    ended_early none may =
        reached.so_far
        ∙ ap (λ x. put_lines kept (from form allowed may_end past at (cut x))) none
        ∙ rw may refl

-- a line of this content stands in the text from the place `at` to the place `now`
pub record IsLine (text : List ℕ) (at : ℕ) (content : List ℕ) (now : ℕ) : Type 0 where
  pub cuts : cut (drop at text) ≡ then_lines (taken content (now - at)) (cut (drop now text))
  pub fits : now - at ≤ 16777216

-- ---- what a reader holds

module _ {F S : Type 0} (form : List ℕ → F) (allowed : List F → F → Bool) (may_end : List F → Bool) (holds : List F → Lines F → ℕ → S → Type 0) where
  -- lines up to the place `at`; where the text is told, they are its own
  pub record SoFar (tells : Bool) (text : List ℕ) (at : ℕ) (state : S) : Type 0 where
    pub past : List F
    pub kept : Lines F
    pub held : holds past kept at state
    pub told : IsTrue tells → Reached form allowed may_end text past kept at

  pub none_so_far : (tells : Bool) (text : List ℕ) (at : ℕ) (state : S) → holds [] [] 0 state → at ≡ 0 → SoFar tells text at state
  none_so_far tells text at state empty start =
      rw start (record { past = []; kept = []; held = empty; told = λ t. begin form allowed may_end text })

  module _ (tells : Bool) (text : List ℕ) (at : ℕ) (state : S) (so_far : SoFar tells text at state) where
    module _ (content : List ℕ) (now : ℕ) (moved : at < now) (line : IsTrue tells → IsLine text at content now) (new : S) where
      pub line_taken : (b : Bool) → b ≡ true → Takes form allowed holds so_far.past so_far.kept at content new b → SoFar tells text now new
      line_taken b so step = record {
        past = form content ∷ so_far.past;
        kept = so_far.kept ++ (at, form content, content) ∷ [];
        held = step.after so now (omega arith);
        told = λ t.
            let l = line t in
            more form allowed may_end text so_far.past so_far.kept at (so_far.told t) content now l.cuts l.fits moved (sym step.same ∙ so);
      }

      pub line_refused : (b : Bool) → b ≡ false → Takes form allowed holds so_far.past so_far.kept at content new b → IsTrue tells → lines_of form allowed may_end text ≡ Err at
      line_refused b so step t =
          let l = line t in
          refused form allowed may_end text so_far.past so_far.kept at (so_far.told t) content now l.cuts l.fits (sym step.same ∙ so)

    pub no_line : (e : LineError) → IsTrue tells → Names at e → Refuses e (drop at text) → Breaks (lines_of form allowed may_end text) (text_error e)
    no_line e t named refuses = not_a_line form allowed may_end text so_far.past so_far.kept at (so_far.told t) e named refuses

    pub all_held : (size : ℕ) → at ≡ size → may_end so_far.past ≡ true → (IsTrue tells → drop at text ≡ []) → Holds may_end holds tells (lines_of form allowed may_end text) size state
    all_held size is may none = record {
      past = so_far.past;
      kept = so_far.kept;
      held = rw (sym is) so_far.held;
      ends = may;
      lines = λ t. ended form allowed may_end text so_far.past so_far.kept at (so_far.told t) (none t) may;
    }

    pub not_all_held : may_end so_far.past ≡ false → IsTrue tells → drop at text ≡ [] → lines_of form allowed may_end text ≡ Err at
    not_all_held may t none = ended_early form allowed may_end text so_far.past so_far.kept at (so_far.told t) none may

-- ---- what a reader's call says

-- a reader's rest is the text's rest
rest_is : (before now : ℕ → List ℕ) (w v : Window) → now ≡ before → v ≡ moved_to v.position w → rest now v ≡ drop v.position (window_bytes before w)
rest_is before now w v same is = ap (rest now) is ∙ ap (λ (b : ℕ → List ℕ). drop v.position (window_bytes b w)) same

-- a window that moved twice
pub input_on : (w v u : Window) → v ≡ moved_to v.position w → u ≡ moved_to u.position v → u ≡ moved_to u.position w
input_on w v u first second = second ∙ ap (λ (x : Window). moved_to u.position x) first

module _ (before now : ℕ → List ℕ) (w v : Window) (same : now ≡ before) (is : v ≡ moved_to v.position w) where
  pub line_is : (u : Window) → u ≡ moved_to u.position v → (b : Bool) (line : Line) → b ≡ true
      → GivesLine (line_answer (Ok b) line) (rest now v) (rest now u) v.position u.position
      → IsLine (window_bytes before w) v.position line.content u.position
  line_is u goes true line so h =
      let a = rest_is before now w v same is in
      let z = rest_is before now w u same (input_on w v u is goes) in
      record { cuts = rw (sym a, sym z) h.0; fits = h.1 }
  line_is u goes false line so h = absurd (cc)

  pub none_is : (u : Window) (at : ℕ) (b : Bool) (line : Line) → b ≡ false → GivesLine (line_answer (Ok b) line) (rest now v) (rest now u) v.position at
      → drop v.position (window_bytes before w) ≡ []
  none_is u at true line so h = absurd (cc)
  none_is u at false line so h = sym (rest_is before now w v same is) ∙ h

  pub refuses_is : (e : LineError) → Refuses e (rest now v) → Refuses e (drop v.position (window_bytes before w))
  refuses_is e h = subst (Refuses e) (rest_is before now w v same is) h

pub place_of_line : (b : Bool) (line : Line) (at now end : ℕ) → b ≡ true → Places (line_answer (Ok b) line) at now end → (line.at ≡ at) × (at < now) × (now ≤ end)
place_of_line true line at now end so h = h
place_of_line false line at now end so h = absurd (cc)

pub place_of_end : (b : Bool) (line : Line) (at now end : ℕ) → b ≡ false → Places (line_answer (Ok b) line) at now end → (now ≡ at) × (at ≡ end)
place_of_end true line at now end so h = absurd (cc)
place_of_end false line at now end so h = h

pub refusal_is : (e : LineError) → bytes_refusal (text_error e) ≡ error_refusal e
refusal_is (Unended p) = refl
refusal_is (TooLong p) = refl
refusal_is (Bytes e) = refl
