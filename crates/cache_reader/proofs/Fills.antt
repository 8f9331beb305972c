-- Pieces of a gap, one after another.
use Rattle.std.proofs.Common.{arith, ◌≡◌, ◌≤◌, ◌+◌, ◌-◌, ℕ, List, [], ◌∷◌, ◌++◌, length, take, drop, Bool, false, Option, Some, None, refl, ap, sym, subst, ◌∙◌, slice_get, map, min}
use Rattle.std.specs.Prelude.{IsTrue}
use Rattle.std.specs.List.{flat_map, concat}
use Rattle.std.proofs.lemmas.List.{length-append, length-take, length-drop}
use Rattle.std.proofs.lemmas.List.FromFn.{length-map-range_with_len}
use Rattle.mount_manifest.specs.declared.record.FileRecord.{FileRecord}
use Rattle.cache_outside.specs.Listing.{Listing}
use Rattle.blob_parts.specs.Content.{content, content_places, bytes_of, places_of, files_at, part_bytes, part_places, part_blob, part_numbers, place_in, slice_of}
use Rattle.blob_parts.specs.Takes.{Took}
use Rattle.byte_text.specs.Counts.{Rose}
use Rattle.cache_reader.specs.declared.report.Report.{Report}
use Rattle.cache_reader.specs.Reports.{no_bytes, fetched_bytes, Counted}
use Rattle.cache_reader.specs.Parts.{ReadSetting}
use Rattle.cache_reader.specs.Parts as parts
use Rattle.cache_reader.specs.Going.{Moment, Goes}
use Rattle.cache_reader.specs.Filling.{Filling, Partly, Whole}
use Rattle.blob_parts.specs.Reading.{took_both}
use Rattle.blob_parts.proofs.Taken.{slice_more}
use Rattle.cache_reader.proofs.Joins.{goes_more, goes_none, counted_more, counted_none, took_none, rose_first, rose_then}

-- a file has as many places as bytes
places_over : (blobs : Listing) (f : FileRecord) (ks : List ℕ) → length (flat_map (part_places blobs f) ks) ≡ length (concat (map (part_bytes blobs f) ks))
places_over blobs f [] = refl
places_over blobs f (k ∷ ks) =
    length-append (part_places blobs f k) (flat_map (part_places blobs f) ks)
    ∙ ap (λ n. n + length (flat_map (part_places blobs f) ks)) (length-map-range_with_len (place_in (part_blob blobs f k)) 0 (length (part_bytes blobs f k)))
    ∙ ap (λ n. length (part_bytes blobs f k) + n) (places_over blobs f ks)
    ∙ sym (length-append (part_bytes blobs f k) (concat (map (part_bytes blobs f) ks)))

places_in : (blobs : Listing) (o : Option FileRecord) → length (places_of blobs o) ≡ length (bytes_of blobs o)
places_in blobs None = refl
places_in blobs (Some f) = places_over blobs f (part_numbers f)

pub places_are : (blobs : Listing) (m f : ℕ) → length (content_places blobs m f) ≡ length (content blobs m f)
places_are blobs m f = places_in blobs (slice_get (files_at blobs m) f)

pub slice_length : {X : Type 0} (xs : List X) (at n : ℕ) → at + n ≤ length xs → length (slice_of xs at n) ≡ n
slice_length xs at n h = length-take n (drop at xs) ∙ ap (min n) (length-drop at xs) ∙ omega (arith, h)

goes_as : (c : ReadSetting) (m n : ℕ) (x y : Moment) → m ≡ n → Goes c (fetched_bytes m) x y → Goes c (fetched_bytes n) x y
goes_as c m n x y e h = subst (λ k. Goes c (fetched_bytes k) x y) e h

counted_as : (a b : Report) (m n : ℕ) → m ≡ n → Counted a b (fetched_bytes m) → Counted a b (fetched_bytes n)
counted_as a b m n e h = subst (λ k. Counted a b (fetched_bytes k)) e h

pub filling_none : (c : ReadSetting) (file base at : ℕ) (r : Report) (x : Moment) → Filling c file base at at r r x x
filling_none c file base at r x = let e : 0 ≡ at - at = omega arith in record {
  goes = goes_as c 0 (at - at) x x e (goes_none c x);
  report = counted_as r r 0 (at - at) e (counted_none r);
  took = λ told. subst (λ k. Took x.source.reads x.source.reads (slice_of (parts.places_of c file) (base + at) k)) e (took_none x.source.reads);
}

pub filling_more : (c : ReadSetting) (file base from at n : ℕ) (q r s : Report) (x y z : Moment) → from ≤ at
    → Filling c file base from at q r x y → Goes c (fetched_bytes n) y z → Counted r s (fetched_bytes n)
    → (IsTrue c.tells → Took y.source.reads z.source.reads (slice_of (parts.places_of c file) (base + at) n)) → Filling c file base from (at + n) q s x z
filling_more c file base from at n q r s x y z le h goes count took =
    let e : at - from + n ≡ at + n - from = omega (arith, le) in
    let place : base + from + (at - from) ≡ base + at = omega (arith, le) in record {
      goes = goes_as c (at - from + n) (at + n - from) x z e (goes_more c (fetched_bytes (at - from)) (fetched_bytes n) x y z h.goes goes);
      report = counted_as q s (at - from + n) (at + n - from) e (counted_more q r s (fetched_bytes (at - from)) (fetched_bytes n) h.report count);
      took = λ told.
          let both = took_both x.source.reads y.source.reads z.source.reads (slice_of (parts.places_of c file) (base + from) (at - from)) (slice_of (parts.places_of c file) (base + at) n) (h.took told) (took told) in
          let glue : slice_of (parts.places_of c file) (base + from) (at - from) ++ slice_of (parts.places_of c file) (base + at) n ≡ slice_of (parts.places_of c file) (base + from) (at + n - from) =
          ap (λ k. slice_of (parts.places_of c file) (base + from) (at - from) ++ slice_of (parts.places_of c file) k n) (sym place)
          ∙ slice_more (parts.places_of c file) (base + from) (at - from) n ∙ ap (slice_of (parts.places_of c file) (base + from)) e in
          subst (λ ps. Took x.source.reads z.source.reads ps) glue both;
    }

-- what a piece took that may have been refused
abbrev pub PieceTook : ReadSetting → ℕ → ℕ → ℕ → Moment → Moment → Type 0
PieceTook c file place n x y = (ps : List (ℕ × ℕ)) × Took x.source.reads y.source.reads ps × (length ps ≤ n)

pub piece_most : {X : Type 0} (xs : List X) (at n : ℕ) → length (slice_of xs at n) ≤ n
piece_most xs at n = omega (arith, length-take n (drop at xs))

pub piece_all : (t u : Option (List (ℕ × ℕ × ℕ))) (xs : List (ℕ × ℕ)) (at n : ℕ) → Took t u (slice_of xs at n) → (ps : List (ℕ × ℕ)) × Took t u ps × (length ps ≤ n)
piece_all t u xs at n h = (slice_of xs at n, h, piece_most xs at n)

pub piece_some : (t u : Option (List (ℕ × ℕ × ℕ))) (xs : List (ℕ × ℕ)) (at n : ℕ) → (k : ℕ) × Took t u (take k (slice_of xs at n)) → (ps : List (ℕ × ℕ)) × Took t u ps × (length ps ≤ n)
piece_some t u xs at n h = (take h.0 (slice_of xs at n), h.1, omega (arith, length-take h.0 (slice_of xs at n), length-take n (drop at xs)))

-- places of bytes that are there are as many as the bytes
pub whole_places : (blobs : Listing) (m f at n : ℕ) (out : List ℕ) → out ≡ slice_of (content blobs m f) at n → length out ≡ n → length (slice_of (content_places blobs m f) at n) ≡ n
whole_places blobs m f at n out is size =
    length-take n (drop at (content_places blobs m f)) ∙ ap (min n) (length-drop at (content_places blobs m f) ∙ ap (λ k. k - at) (places_are blobs m f) ∙ sym (length-drop at (content blobs m f)))
    ∙ sym (length-take n (drop at (content blobs m f))) ∙ sym (ap length is) ∙ size

-- a gap whose piece was refused, for want of memory or where a count rose
pub partly_refused : (c : ReadSetting) (file base from at n end : ℕ) (out_of_memory : Bool) (q r : Report) (x y z w : Moment) → from ≤ at → at + n ≤ end
    → (IsTrue c.tells → base + end ≤ length (parts.places_of c file))
    → Filling c file base from at q r x y → Goes c (fetched_bytes 0) y z → Goes c no_bytes z w → w.source.reads ≡ z.source.reads
    → (out_of_memory ≡ false → (Rose y.source.faults z.source.faults → ⊥) → (Rose y.door.frame_faults z.door.frame_faults → ⊥) → ⊥)
    → (IsTrue c.tells → PieceTook c file (base + at) n y z) → Partly c (end - from) out_of_memory q r x w
partly_refused c file base from at n end out_of_memory q r x y z w le most inside h piece failed same cause took = let e : at - from + 0 + 0 ≡ at - from = omega arith in record {
  count = at - from;
  most = omega (arith, most);
  goes = goes_as c (at - from + 0 + 0) (at - from) x w e (goes_more c (fetched_bytes (at - from + 0)) no_bytes x z w (goes_more c (fetched_bytes (at - from)) (fetched_bytes 0) x y z h.goes piece) failed);
  report = h.report;
  took = λ told.
      let more = took told in
      let before = slice_of (parts.places_of c file) (base + from) (at - from) in
      let size : length before ≡ at - from = slice_length (parts.places_of c file) (base + from) (at - from) (omega (arith, inside told, le, most)) in
      let both : Took x.source.reads z.source.reads (before ++ more.0) = took_both x.source.reads y.source.reads z.source.reads before more.0 (h.took told) more.1 in (
        before ++ more.0,
        subst (λ t. Took x.source.reads t (before ++ more.0)) (sym same) both,
        omega (arith, length-append before more.0, size),
        omega (arith, length-append before more.0, size, more.2, le, most),
        λ enough calm still. absurd (cause enough
            (λ r. calm (rose_first x.source.faults z.source.faults w.source.faults failed.faults (rose_then x.source.faults y.source.faults z.source.faults h.goes.faults r)))
            (λ r. still (rose_first x.door.frame_faults z.door.frame_faults w.door.frame_faults failed.frame_faults (rose_then x.door.frame_faults y.door.frame_faults z.door.frame_faults h.goes.frame_faults r)))),
      );
}

-- a gap that was filled
pub partly_filled : (c : ReadSetting) (file base from end : ℕ) (out_of_memory : Bool) (q r : Report) (x y : Moment) → from ≤ end → (IsTrue c.tells → base + end ≤ length (parts.places_of c file)) → Filling c file base from end q r x y → Partly c (end - from) out_of_memory q r x y
partly_filled c file base from end out_of_memory q r x y le inside h = record {
  count = end - from;
  most = omega arith;
  goes = h.goes;
  report = h.report;
  took = λ told.
      let size : length (slice_of (parts.places_of c file) (base + from) (end - from)) ≡ end - from = slice_length (parts.places_of c file) (base + from) (end - from) (omega (arith, inside told, le)) in
      (slice_of (parts.places_of c file) (base + from) (end - from), h.took told, omega (arith, size), omega (arith, size), λ enough calm still. size);
}

pub whole_filled : (c : ReadSetting) (file base from end : ℕ) (q r : Report) (x y : Moment) → from ≤ end → (IsTrue c.tells → base + end ≤ length (parts.places_of c file)) → Filling c file base from end q r x y → Whole c (end - from) q r x y
whole_filled c file base from end q r x y le inside h = record {
  goes = h.goes;
  report = h.report;
  took = λ told. (slice_of (parts.places_of c file) (base + from) (end - from), h.took told, slice_length (parts.places_of c file) (base + from) (end - from) (omega (arith, inside told, le)));
}
