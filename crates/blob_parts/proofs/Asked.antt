-- One read of a file, without a cache.
use Rattle.std.proofs.Common.{◌≡◌, ℕ, ◌+◌, ◌≤◌, ◌<◌, List, [], Bool, false, length, take, refl, sym, ◌∙◌}
use Rattle.std.specs.Prelude.{IsTrue}
use Rattle.std.proofs.lemmas.List.{append-nil}
use Rattle.std.proofs.Math.Seq.{take-length}
use Rattle.byte_text.specs.Counts.{Rose}
use Rattle.cache_outside.specs.Sources.{SourceView}
use Rattle.cache_outside.specs.Listing.{Listing}
use Rattle.directory_input.specs.Reads.{one_read}
use Rattle.blob_parts.specs.Content.{content_places, slice_of}
use Rattle.blob_parts.specs.Tables.{TableParts, file_length}
use Rattle.blob_parts.specs.Takes.{Took}
use Rattle.blob_parts.specs.Going.{ReadsOn}

-- a read that was answered took all its bytes
pub answered : (tells : Bool) (blobs : Listing) (table : TableParts) (file at size : ℕ) (mark : Bool) (x y : SourceView)
    → file < length table.files → at + size ≤ file_length table file → y.identity ≡ x.identity → x.faults ≤ y.faults
    → (IsTrue tells → Took x.reads y.reads (slice_of (content_places blobs table.number file) at size))
    → ReadsOn tells blobs table (one_read file at size) mark mark x y
answered tells blobs table file at size mark x y below inside same later took =
    let asked : List (ℕ × ℕ) = slice_of (content_places blobs table.number file) at size in record {
      allowed = (below, inside, tt);
      identity = same;
      later = later;
      marked = λ h. h;
      places = λ told. record {
        places = asked;
        took = took told;
        fronts = (length asked, [], sym (append-nil (take (length asked) asked) ∙ take-length asked), refl);
        whole = λ enough calm. sym (append-nil asked);
      };
    }

-- a read that was refused took some first ones, and a count rose or a mark was raised
pub refused : (tells : Bool) (blobs : Listing) (table : TableParts) (file at size : ℕ) (before now : Bool) (x y : SourceView)
    → file < length table.files → at + size ≤ file_length table file → y.identity ≡ x.identity → x.faults ≤ y.faults → (IsTrue before → IsTrue now)
    → (now ≡ false → (Rose x.faults y.faults → ⊥) → ⊥)
    → (IsTrue tells → (n : ℕ) × Took x.reads y.reads (take n (slice_of (content_places blobs table.number file) at size)))
    → ReadsOn tells blobs table (one_read file at size) before now x y
refused tells blobs table file at size before now x y below inside same later marked cause took =
    let asked : List (ℕ × ℕ) = slice_of (content_places blobs table.number file) at size in record {
      allowed = (below, inside, tt);
      identity = same;
      later = later;
      marked = marked;
      places = λ told. let some = took told in record {
        places = take some.0 asked;
        took = some.1;
        fronts = (some.0, [], sym (append-nil (take some.0 asked)), refl);
        whole = λ enough calm. absurd (cause enough calm);
      };
    }
