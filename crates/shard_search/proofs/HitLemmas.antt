-- One segment more.
use Rattle.std.proofs.Common.{◌≡◌, ℕ, List, [], ◌∷◌, ◌++◌, ◌+◌, ◌-◌, ◌≤◌, ◌<◌, min, Some, refl, ap, sym, ◌∙◌, arith, take, drop, Bool, false, map, length, zero, suc}
use Rattle.std.specs.Prelude.{Result, Ok, Err, slice_get, slice_index_or, All}
use Rattle.std.specs.List.{range_with_len}
use Rattle.std.proofs.lemmas.List.{append_assoc, append-nil, map-append, take-map, length-map, length-append, length-take}
use Rattle.std.proofs.lemmas.List.{drop_all}
use Rattle.std.proofs.lemmas.List.Elements.{All-append, All-take, All-map, All-filter}
use Rattle.std.proofs.lemmas.List.FromFn.{length-range_with_len, get_or-range_with_len}
use Rattle.doc_bits.specs.Places.{places_of}
use Rattle.mount_manifest.specs.declared.record.Segment.{Segment}
use Rattle.query_lang.specs.Trees.{Tree}
use Rattle.shard_search.specs.Hits.{BadFile, hits_from, segment_docs, pair, ◌>>=◌}
use Rattle.shard_search.specs.Answers.{RefusesBy, put_hits, pair_of, hit, IsHitOf}
use Rattle.shard_search.specs.declared.error.SearchError.{SearchError}
use Rattle.shard_search.specs.declared.error.SearchError.TheVariants.{Bad, Bytes}
use Rattle.shard_search.specs.declared.hits.Hit.{Hit}
use Rattle.byte_text.proofs.Lists.{drop_get}

-- ---- one document more is shown

take_one : {A : Type 0} (k m : ℕ) (x : A) (xs : List A) → k ≡ suc m → take k (x ∷ xs) ≡ x ∷ take m xs
take_one k m x xs e = ap (λ j. take j (x ∷ xs)) e

pub show_more : (n size d : ℕ) (list new : List Hit) (before rest : List ℕ) (whole : List Hit) → length list < size → new ≡ list ++ hit n d ∷ [] → before ≡ d ∷ rest
    → list ++ take (size - length list) (map (hit n) before) ≡ whole
    → (length new ≤ size) × (new ++ take (size - length new) (map (hit n) rest) ≡ whole)
show_more n size d list new before rest whole less grown first shown =
    let longer : length new ≡ length list + 1 = ap length grown ∙ length-append list (hit n d ∷ []) in
    let room : size - length list ≡ suc (size - length new) = omega (arith, longer) in (
      omega (arith, longer),
      ap (λ l. l ++ take (size - length new) (map (hit n) rest)) grown
          ∙ append_assoc list (hit n d ∷ []) (take (size - length new) (map (hit n) rest))
          ∙ ap (λ zs. list ++ zs) (sym (take_one (size - length list) (size - length new) (hit n d) (map (hit n) rest) room))
          ∙ ap (λ ds. list ++ take (size - length list) (map (hit n) ds)) (sym first)
          ∙ shown,
    )

-- ---- the hits of the segments so far, and of one more

put_twice : (xs ys : List (ℕ × ℕ)) (r : Result (List (ℕ × ℕ)) BadFile) → put_hits xs (put_hits ys r) ≡ put_hits (xs ++ ys) r
put_twice xs ys (Ok zs) = ap Ok (sym (append_assoc xs ys zs))
put_twice xs ys (Err b) = refl

put_is : (xs : List (ℕ × ℕ)) (r : Result (List (ℕ × ℕ)) BadFile) → (r >>= (λ more. Ok (xs ++ more))) ≡ put_hits xs r
put_is xs (Ok zs) = refl
put_is xs (Err b) = refl

from_one : (bytes : ℕ → List ℕ) (q : Tree) (n : ℕ) (s : Segment) (ss : List Segment) (docs : List ℕ) → segment_docs bytes q s ≡ Ok docs
    → hits_from bytes q n (s ∷ ss) ≡ put_hits (map (pair n) docs) (hits_from bytes q (n + 1) ss)
from_one bytes q n s ss docs h =
    ap (λ r. r >>= (λ docs. hits_from bytes q (n + 1) ss >>= (λ more. Ok (map (pair n) docs ++ more)))) h ∙ put_is (map (pair n) docs) (hits_from bytes q (n + 1) ss)

from_bad : (bytes : ℕ → List ℕ) (q : Tree) (n : ℕ) (s : Segment) (ss : List Segment) (b : BadFile) → segment_docs bytes q s ≡ Err b → hits_from bytes q n (s ∷ ss) ≡ Err b
from_bad bytes q n s ss b h = ap (λ r. r >>= (λ docs. hits_from bytes q (n + 1) ss >>= (λ more. Ok (map (pair n) docs ++ more)))) h

take_more : {A : Type 0} (n : ℕ) (xs ys : List A) → take n (xs ++ ys) ≡ take n xs ++ take (n - length (take n xs)) ys
take_more zero [] ys = refl
take_more (suc n) [] ys = let e : suc n ≡ suc n - 0 = omega arith in ap (λ k. take k ys) e
take_more zero (x ∷ xs) ys = refl
take_more (suc n) (x ∷ xs) ys = let e : n - length (take n xs) ≡ suc n - suc (length (take n xs)) = omega arith in ap (λ zs. x ∷ zs) (take_more n xs ys ∙ ap (λ k. take n xs ++ take k ys) e)

pairs_are : (n : ℕ) (docs : List ℕ) → map pair_of (map (hit n) docs) ≡ map (pair n) docs
pairs_are n [] = refl
pairs_are n (d ∷ docs) = ap (λ ps. (n, d) ∷ ps) (pairs_are n docs)

list_grown : (n size : ℕ) (list new : List Hit) (hs : List (ℕ × ℕ)) (docs : List ℕ) → map pair_of list ≡ take size hs
    → new ≡ list ++ take (size - length list) (map (hit n) docs) → map pair_of new ≡ take size (hs ++ map (pair n) docs)
list_grown n size list new hs docs is grown =
    ap (map pair_of) grown
    ∙ map-append pair_of list (take (size - length list) (map (hit n) docs))
    ∙ ap (λ zs. map pair_of list ++ zs) (sym (take-map pair_of (size - length list) (map (hit n) docs)))
    ∙ ap (λ zs. map pair_of list ++ take (size - length list) zs) (pairs_are n docs)
    ∙ ap (λ k. map pair_of list ++ take (size - k) (map (pair n) docs)) (sym (length-map list pair_of))
    ∙ ap (λ zs. zs ++ take (size - length zs) (map (pair n) docs)) is
    ∙ sym (take_more size hs (map (pair n) docs))

module _ (bytes : ℕ → List ℕ) (q : Tree) (segments : List Segment) (n : ℕ) (s : Segment) (at : slice_get segments n ≡ Some s) (whole : Result (List (ℕ × ℕ)) BadFile) where
  pub one_segment : (size total count : ℕ) (list new : List Hit) (docs : List ℕ) → count ≡ length docs → segment_docs bytes q s ≡ Ok docs → new ≡ list ++ take (size - length list) (map (hit n) docs)
      → ((hs : List (ℕ × ℕ)) × (total ≡ length hs) × (map pair_of list ≡ take size hs) × (put_hits hs (hits_from bytes q n (drop n segments)) ≡ whole))
      → (hs : List (ℕ × ℕ)) × (total + count ≡ length hs) × (map pair_of new ≡ take size hs) × (put_hits hs (hits_from bytes q (n + 1) (drop (n + 1) segments)) ≡ whole)
  one_segment size total count list new docs counted found grown before = (
    before.0 ++ map (pair n) docs,
    ap (λ k. total + k) counted ∙ ap (λ t. t + length docs) before.1 ∙ ap (λ k. length before.0 + k) (sym (length-map docs (pair n))) ∙ sym (length-append before.0 (map (pair n) docs)),
    list_grown n size list new before.0 docs before.2 grown,
    sym (put_twice before.0 (map (pair n) docs) (hits_from bytes q (n + 1) (drop (n + 1) segments)))
        ∙ ap (put_hits before.0) (sym (from_one bytes q n s (drop (n + 1) segments) docs found))
        ∙ ap (λ ss. put_hits before.0 (hits_from bytes q n ss)) (sym (drop_get segments n s at))
        ∙ before.3,
  )

  pub bad_segment : (e : SearchError) (hs : List (ℕ × ℕ)) → RefusesBy e (segment_docs bytes q s) → put_hits hs (hits_from bytes q n (drop n segments)) ≡ whole → RefusesBy e whole
  bad_segment (Bad f place) hs h before =
      sym before
      ∙ ap (λ ss. put_hits hs (hits_from bytes q n ss)) (drop_get segments n s at)
      ∙ ap (put_hits hs) (from_bad bytes q n s (drop (n + 1) segments) (record { file = f; at = place }) h)
  bad_segment (Bytes b) hs h before = tt

pub all_segments : (bytes : ℕ → List ℕ) (q : Tree) (segments : List Segment) (n : ℕ) (hs : List (ℕ × ℕ)) (whole : Result (List (ℕ × ℕ)) BadFile) → length segments ≤ n
    → put_hits hs (hits_from bytes q n (drop n segments)) ≡ whole → whole ≡ Ok hs
all_segments bytes q segments n hs whole past before =
    sym before ∙ ap (λ ss. put_hits hs (hits_from bytes q n ss)) (drop_all n segments past) ∙ ap Ok (append-nil hs)

-- ---- how many are shown, and which

pub shown_more : (size total count n : ℕ) (list new : List Hit) (docs : List ℕ) → length list ≡ min size total → count ≡ length docs → new ≡ list ++ take (size - length list) (map (hit n) docs)
    → length new ≡ min size (total + count)
shown_more size total count n list new docs before counted grown =
    let e : length new ≡ length list + min (size - length list) (length docs) =
    ap length grown ∙ length-append list (take (size - length list) (map (hit n) docs)) ∙ ap (λ k. length list + k) (length-take (size - length list) (map (hit n) docs) ∙ ap (min (size - length list)) (length-map docs (hit n))) in
    omega (arith, e, before, counted)

all_range : (n : ℕ) → All (λ i. i < n) (range_with_len 0 n)
all_range n = λ k d h.
    let size = length-range_with_len 0 n in
    let e = get_or-range_with_len 0 n k d (omega arith) in
    omega arith

pub hits_within : (segments : List Segment) (n room : ℕ) (s : Segment) (bits : List Bool) (list new : List Hit) → slice_get segments n ≡ Some s → length bits ≡ s.docs → All (IsHitOf segments) list
    → new ≡ list ++ take room (map (hit n) (places_of bits)) → All (IsHitOf segments) new
hits_within segments n room s bits list new at size before grown =
    let within = All-filter (λ i. slice_index_or bits i false) (λ i. i < length bits) (range_with_len 0 (length bits)) (all_range (length bits)) in
    let each : All (λ d. IsHitOf segments (hit n d)) (places_of bits) = λ k d h. (s, at, omega (arith, within k d h, size)) in
    rw grown (All-append (IsHitOf segments) list (take room (map (hit n) (places_of bits))) before (All-take (IsHitOf segments) room (map (hit n) (places_of bits)) (All-map (IsHitOf segments) (hit n) (places_of bits) each)))
