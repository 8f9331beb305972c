-- Reads behind reads.
use Rattle.std.proofs.Common.{◌≡◌, ℕ, ◌≤◌, List, [], ◌∷◌, ◌++◌, Bool, true, false, Option, Some, None, length, map, take, refl, ap, sym, subst, ◌∙◌, arith}
use Rattle.std.specs.Prelude.{IsTrue}
use Rattle.std.specs.List.{flat_map}
use Rattle.std.proofs.lemmas.Grind.{flat_map-append}
use Rattle.std.proofs.lemmas.List.{append-nil, append_assoc, map-append}
use Rattle.std.proofs.Math.Nat.{le_refl, le_trans}
use Rattle.byte_text.specs.Counts.{Rose}
use Rattle.cache_outside.specs.Listing.{Listing}
use Rattle.cache_outside.specs.Sources.{SourceView}
use Rattle.directory_input.specs.Files.{FilesLater}
use Rattle.directory_input.specs.Reads.{Read}
use Rattle.blob_parts.specs.Content.{content, spread, spread_one}
use Rattle.blob_parts.specs.Tables.{TableParts, file_length}
use Rattle.blob_parts.specs.Takes.{Took}
use Rattle.blob_parts.specs.Going.{AreInTable, AreFronts, TakesReads, ReadsOn, read_places, files_view}

-- nothing is taken yet
pub took_none : (t : Option (List (ℕ × ℕ × ℕ))) (asked : List (ℕ × ℕ)) → Took t t (take 0 asked)
took_none None asked = refl
took_none (Some before) asked = ([], ap Some (sym (append-nil before)), refl)

-- one call after another
pub took_both : (t u v : Option (List (ℕ × ℕ × ℕ))) (first then : List (ℕ × ℕ)) → Took t u first → Took u v then → Took t v (first ++ then)
took_both None u v first then a b = rw a at b
took_both (Some before) u v first then a b =
    let own = rw a.1 at b in (
      a.0 ++ own.0,
      own.1 ∙ ap Some (append_assoc before a.0 own.0),
      flat_map-append spread_one a.0 own.0 ∙ ap (λ r. r ++ spread own.0) a.2 ∙ ap (λ r. first ++ r) own.2,
    )

pub allowed_more : (table : TableParts) (rs ss : List Read) → AreInTable table rs → AreInTable table ss → AreInTable table (rs ++ ss)
allowed_more table [] ss h k = k
allowed_more table (r ∷ rs) ss h k = (h.0, h.1, allowed_more table rs ss h.2 k)

fronts_more : {X : Type 0} (xss yss : List (List X)) (xs ys : List X) → AreFronts xss xs → AreFronts yss ys → AreFronts (xss ++ yss) (xs ++ ys)
fronts_more [] yss xs ys h k = rw h k
fronts_more (x ∷ xss) yss xs ys h k =
    (h.0, h.1 ++ ys, ap (λ r. r ++ ys) h.2 ∙ append_assoc (take h.0 x) h.1 ys, fronts_more xss yss h.1 ys h.3 k)

pub rose_first : (a b c : ℕ) → b ≤ c → Rose a b → Rose a c
rose_first a b c h r = omega (arith, h, r)

pub rose_then : (a b c : ℕ) → a ≤ b → Rose b c → Rose a c
rose_then a b c h r = omega (arith, h, r)

pub unmarked : (first then : Bool) → (IsTrue first → IsTrue then) → then ≡ false → first ≡ false
unmarked false then h e = refl
unmarked true then h e = let raised = h refl in absurd (cc)

takes_more : (asked : Read → List (ℕ × ℕ)) (rs ss : List Read) (first then : Bool) (x y z : SourceView)
    → x.faults ≤ y.faults → y.faults ≤ z.faults → (IsTrue first → IsTrue then)
    → TakesReads asked rs first x y → TakesReads asked ss then y z → TakesReads asked (rs ++ ss) then x z
takes_more asked rs ss first then x y z up on marks h k = record {
  places = h.places ++ k.places;
  took = took_both x.reads y.reads z.reads h.places k.places h.took k.took;
  fronts = rw (map-append asked rs ss) (fronts_more (map asked rs) (map asked ss) h.places k.places h.fronts k.fronts);
  whole = λ enough calm.
      ap (λ r. r ++ k.places) (h.whole (unmarked first then marks enough) (λ r. calm (rose_first x.faults y.faults z.faults on r)))
      ∙ ap (λ r. flat_map asked rs ++ r) (k.whole enough (λ r. calm (rose_then x.faults y.faults z.faults up r)))
      ∙ sym (flat_map-append asked rs ss);
}

pub no_reads : (tells : Bool) (blobs : Listing) (table : TableParts) (mark : Bool) (x : SourceView) → ReadsOn tells blobs table [] mark mark x x
no_reads tells blobs table mark x = record {
  allowed = tt;
  identity = refl;
  later = le_refl x.faults;
  marked = λ h. h;
  places = λ told. record { places = []; took = took_none x.reads []; fronts = refl; whole = λ a b. refl };
}

more_reads : (tells : Bool) (blobs : Listing) (table : TableParts) (rs ss : List Read) (p q r : Bool) (x y z : SourceView)
    → ReadsOn tells blobs table rs p q x y → ReadsOn tells blobs table ss q r y z → ReadsOn tells blobs table (rs ++ ss) p r x z
more_reads tells blobs table rs ss p q r x y z h k = record {
  allowed = allowed_more table rs ss h.allowed k.allowed;
  identity = k.identity ∙ h.identity;
  later = le_trans h.later k.later;
  marked = λ m. k.marked (h.marked m);
  places = λ told. takes_more (read_places blobs table.number) rs ss q r x y z h.later k.later k.marked (h.places told) (k.places told);
}

-- the same, where the later reads are of a table that is the same one
pub more_of_same : (tells : Bool) (blobs : Listing) (table other : TableParts) (rs ss : List Read) (p q r : Bool) (x y z : SourceView)
    → other ≡ table → ReadsOn tells blobs table rs p q x y → ReadsOn tells blobs other ss q r y z → ReadsOn tells blobs table (rs ++ ss) p r x z
more_of_same tells blobs table other rs ss p q r x y z same h k =
    more_reads tells blobs table rs ss p q r x y z h (subst (λ own. ReadsOn tells blobs own ss q r y z) same k)

-- reads change no files, and lower no count or mark
pub files_later : (tells : Bool) (blobs : Listing) (table other : TableParts) (rs : List Read) (p q : Bool) (x y : SourceView)
    → other ≡ table → ReadsOn tells blobs table rs p q x y → FilesLater (files_view tells blobs table x p) (files_view tells blobs other y q)
files_later tells blobs table other rs p q x y same h = record {
  count = ap (λ t. length t.files) same;
  lengths = ap file_length same;
  tells = refl;
  bytes = ap (λ t. content blobs t.number) same;
  mount = refl;
  faults = h.later;
  gone = λ seen. seen;
  memory = h.marked;
}
