-- The lines of a part of a text that begins where a line begins, and ends where one ends.
use Rattle.std.proofs.Common.{arith, ◌≡◌, ℕ, zero, suc, ◌+◌, ◌-◌, ◌<◌, ◌≤◌, length, take, drop, List, [], ◌∷◌, Option, Some, None, sym, Bool, true, false, refl, ap, ap₂, ◌∙◌, subst}
use Rattle.std.specs.Prelude.{◌==◌, if◌then◌else◌}
use Rattle.std.proofs.lemmas.List.{drop-take}
use Rattle.directory_input.proofs.Slices.{drop_drop, take_take}
use Rattle.text_lines.specs.Escapes.{newline, backslash, unescape}
use Rattle.text_lines.specs.Lines.{Taken, Cut, cut}
use Rattle.simpletext_postings.specs.Postings.{form_of}
use Rattle.simpletext_postings.specs.Terms.{ends_entries, entries_end}
use Rattle.simpletext_postings.proofs.Cutting.{size_after, IsEnd, Ends, ends}

-- ---- where the first line of a front ends

more_by : (x n s : ℕ) (rest : List ℕ) (slash line : Bool) → (x == backslash) ≡ slash → (x == newline) ≡ line
    → (size_after true (n + 1) rest ≡ Some s → n + 1 < s) → (size_after false (n + 1) rest ≡ Some s → n + 1 < s)
    → size_after false n (x ∷ rest) ≡ Some s → n < s
more_by x n s rest true line a b taken other h = let own = rw a at h in omega (arith, taken own)
more_by x n s rest false true a b taken other h = let own : Some (n + 1) ≡ Some s = rw (a, b) at h in let e : n + 1 ≡ s = cc in omega arith
more_by x n s rest false false a b taken other h = let own = rw (a, b) at h in omega (arith, other own)

size_more : (slash : Bool) (n s : ℕ) (text : List ℕ) → size_after slash n text ≡ Some s → n < s
size_more true n s [] h = absurd (cc)
size_more false n s [] h = absurd (cc)
size_more true n s (x ∷ rest) h = omega (arith, size_more false (n + 1) s rest h)
size_more false n s (x ∷ rest) h = more_by x n s rest _ _ refl refl (size_more true (n + 1) s rest) (size_more false (n + 1) s rest) h

front_by : (x n k s : ℕ) (rest : List ℕ) (slash line : Bool) → (x == backslash) ≡ slash → (x == newline) ≡ line
    → (size_after true (n + 1) rest ≡ Some s → size_after true (n + 1) (take k rest) ≡ Some s)
    → (size_after false (n + 1) rest ≡ Some s → size_after false (n + 1) (take k rest) ≡ Some s)
    → size_after false n (x ∷ rest) ≡ Some s → size_after false n (x ∷ take k rest) ≡ Some s
front_by x n k s rest true line a b taken other h = let own = rw a at h in rw a (taken own)
front_by x n k s rest false true a b taken other h = let own = rw (a, b) at h in rw (a, b) own
front_by x n k s rest false false a b taken other h = let own = rw (a, b) at h in rw (a, b) (other own)

size_front : (slash : Bool) (n k s : ℕ) (text : List ℕ) → s ≤ n + k → size_after slash n text ≡ Some s → size_after slash n (take k text) ≡ Some s
size_front slash n zero s text le h = absurd (omega (arith, size_more slash n s text h))
size_front true n (suc k) s [] le h = absurd (cc)
size_front false n (suc k) s [] le h = absurd (cc)
size_front true n (suc k) s (x ∷ rest) le h = size_front false (n + 1) k s rest (omega arith) h
size_front false n (suc k) s (x ∷ rest) le h =
    front_by x n k s rest _ _ refl refl (size_front true (n + 1) k s rest (omega arith)) (size_front false (n + 1) k s rest (omega arith)) h

-- ---- the first line of a text, and of a front of it

cut_of : List Taken → Taken → Cut
unfolding cut
cut_of ls tail = record { lines = ls; tail = tail }

abbrev made : List Taken → Taken → Cut
made ls tail = record { lines = ls; tail = tail }

abbrev with_first : Taken → Cut → Cut
with_first l c = record { lines = l ∷ c.lines; tail = c.tail }

same_cut : (c : Cut) (ls : List Taken) (tail : Taken) → c.lines ≡ ls → c.tail ≡ tail → c ≡ made ls tail
same_cut c ls tail e f = ap₂ made e f

pub record IsFront (text : List ℕ) (l : Taken) (ls : List Taken) (tail : Taken) : Type 0 where
  pub inside : l.size ≤ length text
  pub rest : cut (drop l.size text) ≡ record { lines = ls; tail = tail }
  pub front : (m : ℕ) → cut (take (l.size + m) text) ≡ record { lines = l ∷ (cut (take m (drop l.size text))).lines; tail = (cut (take m (drop l.size text))).tail }

module _ (text : List ℕ) (n raw : ℕ) (content : List ℕ) (size : size_after false 0 text ≡ Some n) (e : IsEnd 0 text n raw content) where
  n_is : n ≡ suc raw
  n_is = omega (arith, e.size)

  front_line : (m : ℕ) (raw' : ℕ) (content' : List ℕ) → IsEnd 0 (take (suc raw + m) text) n raw' content'
      → cut (take (suc raw + m) text) ≡ with_first (record { content = content; size = suc raw }) (cut (take m (drop (suc raw) text)))
  front_line m raw' content' f =
      let same : raw' ≡ raw = omega (arith, e.size, f.size) in
      let le : raw ≤ suc raw + m = omega arith in
      let undone : unescape (take raw text) ≡ Some content' = ap unescape (sym (take_take raw (suc raw + m) text le)) ∙ (ap (λ k. unescape (take k (take (suc raw + m) text))) (sym same) ∙ f.undone) in
      let some : Some content' ≡ Some content = sym undone ∙ e.undone in
      let own : content' ≡ content = cc in
      let behind : drop (suc raw) (take (suc raw + m) text) ≡ take m (drop (suc raw) text) = drop-take (suc raw) m text in
      let lines = rw (same, own, behind) at f.lines in
      let tail = rw (same, behind) at f.tail in
      same_cut (cut (take (suc raw + m) text)) _ _ lines tail

  front_of : (m : ℕ) → cut (take (suc raw + m) text) ≡ with_first (record { content = content; size = suc raw }) (cut (take m (drop (suc raw) text)))
  front_of m =
      let le : n ≤ 0 + (suc raw + m) = omega (arith, n_is) in
      let found = size_front false 0 (suc raw + m) n text le size in
      let ends_here : Ends 0 (take (suc raw + m) text) (Some n) = subst (λ o. Ends 0 (take (suc raw + m) text) o) found (ends 0 (take (suc raw + m) text)) in
      front_line m ends_here.0 ends_here.1 ends_here.2

  is_front : (l : Taken) (ls : List Taken) (tail : Taken) → cut text ≡ made ls tail → (l' : Taken) (ls' : List Taken) → ls ≡ l' ∷ ls' → IsFront text l' ls' tail
  is_front l ls tail is l' ls' cons =
      let lines : record { content = content; size = suc raw } ∷ (cut (drop (suc raw) text)).lines ≡ l' ∷ ls' = sym e.lines ∙ (ap (λ (c : Cut). c.lines) is ∙ cons) in
      let own : record { content = content; size = suc raw } ≡ l' = cc in
      let others : (cut (drop (suc raw) text)).lines ≡ ls' = cc in
      let tails : (cut (drop (suc raw) text)).tail ≡ tail = sym e.tail ∙ ap (λ (c : Cut). c.tail) is in
      subst (λ x. IsFront text x ls' tail) own (record {
        inside = omega (arith, e.inside);
        rest = same_cut (cut (drop (suc raw) text)) ls' tail others tails;
        front = front_of;
      })

front_by_size : (text : List ℕ) (l : Taken) (ls : List Taken) (tail : Taken) → cut text ≡ made (l ∷ ls) tail → (o : Option ℕ) → size_after false 0 text ≡ o → Ends 0 text o → IsFront text l ls tail
front_by_size text l ls tail is None size e =
    let none : [] ≡ l ∷ ls = sym e.0 ∙ ap (λ (c : Cut). c.lines) is in
    absurd (cc)
front_by_size text l ls tail is (Some n) size e = is_front text n e.0 e.1 size e.2 l (l ∷ ls) tail is l ls refl

pub first_line : (text : List ℕ) (l : Taken) (ls : List Taken) (tail : Taken) → cut text ≡ record { lines = l ∷ ls; tail = tail } → IsFront text l ls tail
first_line text l ls tail is = front_by_size text l ls tail is _ refl (ends 0 text)

-- ---- the lines of a term's entries

-- the lines up to the next line of a term or a field, or `END`
abbrev pub run : List Taken → List Taken
run [] = []
run (l ∷ ls) = if ends_entries (form_of l.content) then [] else l ∷ run ls

abbrev pub no_tail : Taken
no_tail = record { content = []; size = 0 }

cut_none : (text : List ℕ) (n : ℕ) → n ≡ 0 → cut (take n text) ≡ made [] no_tail
unfolding cut
cut_none text n e = rw e refl

later_by : (at size end : ℕ) (b : Bool) → at + size ≤ end → at ≤ (if b then at else end)
later_by at size end true h = omega arith
later_by at size end false h = omega arith

pub entries_later : (at : ℕ) (ls : List Taken) → at ≤ entries_end at ls
entries_later at [] = omega arith
entries_later at (l ∷ ls) = later_by at l.size (entries_end (at + l.size) ls) (ends_entries (form_of l.content)) (entries_later (at + l.size) ls)

cut_by : (text : List ℕ) (at : ℕ) (l : Taken) (ls : List Taken) (tail : Taken) (b : Bool) → cut (drop at text) ≡ made (l ∷ ls) tail
    → (cut (drop (at + l.size) text) ≡ made ls tail → cut (take (entries_end (at + l.size) ls - (at + l.size)) (drop (at + l.size) text)) ≡ made (run ls) no_tail)
    → cut (take ((if b then at else entries_end (at + l.size) ls) - at) (drop at text)) ≡ made (if b then [] else l ∷ run ls) no_tail
cut_by text at l ls tail true is ih = cut_none (drop at text) (at - at) (omega arith)
cut_by text at l ls tail false is ih =
    let f = first_line (drop at text) l ls tail is in
    let same : drop l.size (drop at text) ≡ drop (at + l.size) text = drop_drop at l.size text in
    let later = entries_later (at + l.size) ls in
    let rest = ih (sym (ap cut same) ∙ f.rest) in
    let n : entries_end (at + l.size) ls - at ≡ l.size + (entries_end (at + l.size) ls - (at + l.size)) = omega (arith, later) in
    ap (λ k. cut (take k (drop at text))) n ∙ f.front (entries_end (at + l.size) ls - (at + l.size))
    ∙ ap (λ x. with_first l (cut (take (entries_end (at + l.size) ls - (at + l.size)) x))) same ∙ ap (with_first l) rest

pub entries_cut : (text : List ℕ) (at : ℕ) (ls : List Taken) (tail : Taken) → cut (drop at text) ≡ record { lines = ls; tail = tail }
    → cut (take (entries_end at ls - at) (drop at text)) ≡ record { lines = run ls; tail = no_tail }
entries_cut text at [] tail is = cut_none (drop at text) (at - at) (omega arith)
entries_cut text at (l ∷ ls) tail is = cut_by text at l ls tail (ends_entries (form_of l.content)) is (entries_cut text (at + l.size) ls tail)
