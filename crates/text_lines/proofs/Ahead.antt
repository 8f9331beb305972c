-- What is read ahead, and the bytes behind it.
use Rattle.std.proofs.Common.{◌≡◌, subst, true, false, ℕ, zero, suc, ◌+◌, ◌-◌, ◌≤◌, ◌<◌, ◌∙◌, ap, ap₂, sym, refl, arith, append_assoc, get_or, Bool, List, [], ◌∷◌, ◌++◌, length, take, drop}
use Rattle.std.specs.Prelude.{IsTrue}
use Rattle.std.proofs.lemmas.List.{drop-take, take-append-drop, length-take, length-drop}
use Rattle.std.specs.Prelude.{slice_index, if◌then◌else◌}
use Rattle.std.proofs.Common.{inl, inr, ◌⊎◌}
use Rattle.std.proofs.lemmas.Bool.{true≢false, cases_eq}
use Rattle.memchr.specs.Find.{Nowhere, Passes, places_from}
use Rattle.directory_input.specs.Reads.{Read, slice_of}
use Rattle.directory_input.specs.Windows.{Window, FitsFile, moved_to, window_bytes}
use Rattle.directory_input.proofs.Slices.{drop_drop, zero_add}
use Rattle.directory_input.specs.Files.{FilesView, FilesLater}
use Rattle.text_lines.specs.declared.reader.LineError.{LineError}
use Rattle.text_lines.specs.declared.reader.LineError.TheVariants.{Unended, TooLong, Bytes}
use Rattle.text_lines.specs.Escapes.{newline}
use Rattle.text_lines.specs.Lines.{cut}
use Rattle.text_lines.specs.Walks.{taken, then_lines, front, IsNear}
use Rattle.text_lines.proofs.Cuts.{IsPlain, begins, to_newline}
use Rattle.text_lines.specs.Readers.{Reading, FitsBytes, ArePieces, ReadsPieces, IsOfBytes, Names, Refuses, LendsLine, bytes_ahead, skip_of}

drop_append : (n : ℕ) (xs ys : List ℕ) → n ≤ length xs → drop n (xs ++ ys) ≡ drop n xs ++ ys
drop_append zero xs ys le = refl
drop_append (suc n) [] ys le = absurd (omega (arith, le))
drop_append (suc n) (x ∷ xs) ys le = drop_append n xs ys (omega (arith, le))

-- what is left of the bytes read ahead after some of them
pub skipped : (from till count : ℕ) (xs : List ℕ) → count ≤ length (take (till - from) (drop from xs))
    → take (till - (from + count)) (drop (from + count) xs) ≡ drop count (take (till - from) (drop from xs))
skipped from till count xs le =
    let few : length (take (till - from) (drop from xs)) ≤ till - from = omega (arith, length-take (till - from) (drop from xs)) in
    let e : count + (till - (from + count)) ≡ till - from = omega (arith, le, few) in
    ap (take (till - (from + count))) (sym (drop_drop from count xs))
    ∙ sym (drop-take count (till - (from + count)) (drop from xs))
    ∙ ap (λ k. drop count (take k (drop from xs))) e

-- the bytes of a piece, and the text behind it
pub piece_fits : (at count : ℕ) (buffer text : List ℕ) → count ≤ length buffer → take count buffer ≡ slice_of at count text
    → take count buffer ++ drop (at + length (take count buffer)) text ≡ drop at text
piece_fits at count buffer text le is =
    let len : length (take count buffer) ≡ count = omega (arith, le, length-take count buffer) in
    ap₂ (λ x n. x ++ drop (at + n) text) is len
    ∙ ap (λ x. take count (drop at text) ++ x) (sym (drop_drop at count text))
    ∙ take-append-drop count (drop at text)

-- after some of the bytes read ahead
pub rest_after : (at used : ℕ) (ahead text : List ℕ) → used ≤ length ahead → ahead ++ drop (at + length ahead) text ≡ drop at text
    → drop used ahead ++ drop (at + length ahead) text ≡ drop (at + used) text
rest_after at used ahead text le h =
    sym (drop_append used ahead (drop (at + length ahead) text) le) ∙ ap (drop used) h ∙ drop_drop at used text

pub skip_fits : (files : FilesView) (r : Reading) (n : ℕ) → n ≤ length r.ahead → FitsBytes files r → FitsBytes files (skip_of r n)
skip_fits files r n le h =
    let at = r.input.position in
    let len : at + n + length (drop n r.ahead) ≡ at + length r.ahead = omega (arith, le, length-drop n r.ahead) in
    record {
      file = record { file = h.file.file; inside = h.file.inside; whole = h.file.whole };
      inside = omega (arith, len, h.inside);
      ahead = λ t. ap (λ k. drop n r.ahead ++ drop k (window_bytes files.bytes r.input)) len ∙ rest_after at n r.ahead (window_bytes files.bytes r.input) le (h.ahead t);
    }

pieces_append : (file start size : ℕ) (rs ss : List Read) → ArePieces file start size rs → ArePieces file start size ss → ArePieces file start size (rs ++ ss)
pieces_append file start size [] ss h k = k
pieces_append file start size (r ∷ rs) ss h k = (h.0, pieces_append file start size rs ss h.1 k)

-- reads of pieces after reads of pieces, of an input that has moved
pub pieces_on : {S : Type 0} {goes_by : List Read → S → S → Type 0} {w v : Window} {x y z : S} (n : ℕ)
    → ((rs ss : List Read) (x y z : S) → goes_by rs x y → goes_by ss y z → goes_by (rs ++ ss) x z)
    → v ≡ moved_to n w → ReadsPieces goes_by w x y → ReadsPieces goes_by v y z → ReadsPieces goes_by w x z
pieces_on {w = w} {v} {x} {y} {z} n more is h k =
    let later = rw is at k.pieces in
    record { reads = h.reads ++ k.reads; pieces = pieces_append w.file w.start w.size h.reads k.reads h.pieces later; by = more h.reads k.reads x y z h.by k.by }

-- before the first read
pub no_pieces : {S : Type 0} (goes_by : List Read → S → S → Type 0) (w : Window) (x : S) → goes_by [] x x → ReadsPieces goes_by w x x
no_pieces goes_by w x none = record { reads = []; pieces = tt; by = none }

-- nothing read ahead, so that nothing lies between the two ends of it
pub nothing_held : (from till : ℕ) (xs : List ℕ) → from ≤ till → till ≤ length xs → take (till - from) (drop from xs) ≡ [] → till ≡ from
nothing_held from till xs order held none =
    let len : length (take (till - from) (drop from xs)) ≡ 0 = ap length none in
    omega (arith, order, held, len, length-take (till - from) (drop from xs), length-drop from xs)

-- what was read ahead into an empty buffer
pub filled_fits : (files now : FilesView) (w v : Window) (place n : ℕ) (buffer held : List ℕ)
    → held ≡ buffer → FilesLater files now → v ≡ moved_to (w.position + n) w → w.position ≡ place
    → n ≤ length buffer → place + n ≤ w.size → FitsFile now v → (IsTrue files.tells → take n buffer ≡ bytes_ahead files w n)
    → FitsBytes now (record { input = moved_to place v; ahead = take (n - 0) held })
filled_fits files now w v place n buffer held is later moved at few within fits bytes =
    let e : n - 0 ≡ n = omega arith in
    let len : length (take n buffer) ≡ n = omega (arith, few, length-take n buffer) in
    let size : v.size ≡ w.size = ap (λ (w : Window). w.size) moved in
    let text = window_bytes files.bytes w in
    let same_text : window_bytes now.bytes v ≡ text = ap (window_bytes now.bytes) moved ∙ ap (λ (f : ℕ → List ℕ). window_bytes f w) later.bytes in
    let inside : place + length (take n buffer) ≤ v.size = omega (arith, len, size, within) in
    let whole : FitsBytes now (record { input = moved_to place v; ahead = take n buffer }) = record {
      file = record { file = fits.file; inside = fits.inside; whole = fits.whole };
      inside = inside;
      ahead = λ t. subst (λ (x : List ℕ). take n buffer ++ drop (place + length (take n buffer)) x ≡ drop place x) (sym same_text)
          (piece_fits place n buffer text few (bytes (sym later.tells ∙ t) ∙ ap (λ k. slice_of k n text) at));
    } in
    rw (is, e) whole

-- nothing read ahead, at any place of the input
pub back_fits : (files : FilesView) (r : Reading) (at : ℕ) → at ≤ r.input.size → FitsBytes files r → FitsBytes files (record { input = moved_to at r.input; ahead = [] })
back_fits files r at le h =
    let e : at + 0 ≡ at = omega arith in
    let inside : at + 0 ≤ r.input.size = omega (arith, le) in
    record {
      file = record { file = h.file.file; inside = h.file.inside; whole = h.file.whole };
      inside = inside;
      ahead = λ t. ap (λ k. drop k (window_bytes files.bytes r.input)) e;
    }

-- a reader of which nothing was read yet
pub new_fits : (files : FilesView) (w : Window) (place : ℕ) → place ≤ w.size → FitsFile files w → FitsBytes files (record { input = moved_to place w; ahead = [] })
new_fits files w place le h =
    let e : place + 0 ≡ place = omega arith in
    let inside : place + 0 ≤ w.size = omega (arith, le) in
    record {
      file = record { file = h.file; inside = h.inside; whole = h.whole };
      inside = inside;
      ahead = λ t. ap (λ k. drop k (window_bytes files.bytes w)) e;
    }

pub moved_twice : (w v u : Window) (m n : ℕ) → v ≡ moved_to (w.position + m) w → u ≡ moved_to (v.position + n) v → u ≡ moved_to (w.position + (m + n)) w
moved_twice w v u m n h k =
    let e : w.position + m + n ≡ w.position + (m + n) = omega arith in
    k ∙ ap (λ (x : Window). moved_to (x.position + n) x) h ∙ ap (λ q. moved_to q w) e

pub names_of_bytes : (at : ℕ) (e : LineError) → IsOfBytes e → Names at e
names_of_bytes at (Bytes e) h = tt
names_of_bytes at (Unended p) h = absurd h
names_of_bytes at (TooLong p) h = absurd h

pub refuses_of_bytes : (text : List ℕ) (e : LineError) → IsOfBytes e → Refuses e text
refuses_of_bytes text (Bytes e) h = tt
refuses_of_bytes text (Unended p) h = absurd h
refuses_of_bytes text (TooLong p) h = absurd h

-- a newline among the first m bytes, with no newline and no backslash before it
pub near_newline : (c : List ℕ) (k m : ℕ) (b u : List ℕ) (i : ℕ) → i < length (take m b) → IsPlain (take m b) i → get_or (take m b) i 0 ≡ newline
    → front c k (cut (b ++ u)) ≡ then_lines (taken (c ++ take i (take m b)) (k + (i + 1))) (cut (drop (i + 1) b ++ u))
near_newline c k m b u i inside plain is =
    let near = take m b in
    let far = drop m b in
    let le : i + 1 ≤ length near = omega (arith, inside) in
    let whole : near ++ (far ++ u) ≡ b ++ u = sym (append_assoc near far u) ∙ ap (λ x. x ++ u) (take-append-drop m b) in
    let left : drop (i + 1) near ++ (far ++ u) ≡ drop (i + 1) b ++ u =
    sym (append_assoc (drop (i + 1) near) far u) ∙ ap (λ x. x ++ u) (sym (drop_append (i + 1) near far le) ∙ ap (drop (i + 1)) (take-append-drop m b)) in
    ap (λ x. front c k (cut x)) (sym whole)
    ∙ to_newline c k near (far ++ u) i inside plain is
    ∙ ap (λ x. then_lines (taken (c ++ take i near) (k + (i + 1))) (cut x)) left

-- the content before a newline among the first 32 bytes, with no newline and no backslash before it
pub is_near : (b : List ℕ) (i : ℕ) → i < length (take 32 b) → IsPlain (take 32 b) i → get_or (take 32 b) i 0 ≡ newline → IsNear (take i (take 32 b)) b
is_near b i inside plain is =
    let len : length (take i (take 32 b)) ≡ i = omega (arith, inside, length-take i (take 32 b)) in
    record {
      few = omega (arith, len, inside, length-take 32 b);
      inside = omega (arith, len, inside, length-take 32 b);
      lands = λ u k. rw len (near_newline [] k 32 b u i inside plain is);
    }

-- a line whose content is lent from the front of what was read ahead
pub lends_line : (files : FilesView) (r : Reading) (content : List ℕ) → FitsBytes files r → IsNear content r.ahead → LendsLine files r content
lends_line files r content fits near = λ t.
    let at = r.input.position in
    let used = length content + 1 in
    let text = window_bytes files.bytes r.input in
    let is = fits.ahead t in
    let le : used ≤ length r.ahead = omega (arith, near.inside) in
    let size : at + used - at ≡ used = omega arith in
    let few : used ≤ 16777216 = omega (arith, near.few) in
    let line : cut (drop at text) ≡ then_lines (taken content used) (cut (drop (at + used) text)) =
    begins (drop at text)
    ∙ ap (λ x. front [] 0 (cut x)) (sym is)
    ∙ near.lands (drop (at + length r.ahead) text) 0
    ∙ ap₂ (λ n x. then_lines (taken content n) (cut x)) (zero_add used) (rest_after at used r.ahead text le is) in
    rw size (line, few)

nowhere_before : (test : ℕ → Bool) (hay : List ℕ) (i x : ℕ) → test (slice_index hay i) ≡ false → Nowhere (Passes test hay) (i + 1) x → Nowhere (Passes test hay) i x
nowhere_before test hay i x e later k low below passes = by_cases (cases_eq k i)
  where
    by_cases : ((k ≡ i) ⊎ (k ≡ i → ⊥)) → ⊥
    by_cases (inl same) = true≢false (sym passes ∙ ap (λ j. test (slice_index hay j)) same ∙ e)
    by_cases (inr other) = later k (omega (arith, low, other)) below passes

-- the first of the places where a byte passes a test
pub first_place : (test : ℕ → Bool) (hay : List ℕ) (i n x : ℕ) (rest : List ℕ) → places_from test hay i n ≡ x ∷ rest
    → (i ≤ x) × (x < i + n) × Nowhere (Passes test hay) i x
unfolding places_from
first_place test hay i zero x rest h = absurd (cc)
first_place test hay i (suc n) x rest h = by_cases (test (slice_index hay i)) refl h (λ is. first_place test hay (i + 1) n x rest is)
  where
    by_cases : (b : Bool) → test (slice_index hay i) ≡ b → (if b then i ∷ places_from test hay (i + 1) n else places_from test hay (i + 1) n) ≡ x ∷ rest
        → (places_from test hay (i + 1) n ≡ x ∷ rest → (i + 1 ≤ x) × (x < i + 1 + n) × Nowhere (Passes test hay) (i + 1) x)
        → (i ≤ x) × (x < i + suc n) × Nowhere (Passes test hay) i x
    by_cases true e is later_gives =
        let at : i ≡ x = cc in
        (omega (arith, at), omega (arith, at), (λ k low below. absurd (omega (arith, at, low, below))))
    by_cases false e is later_gives =
        let later = later_gives is in
        (omega (arith, later.0), omega (arith, later.1), nowhere_before test hay i x e later.2)
