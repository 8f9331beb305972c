-- A fetch reads the lines of its document.
use Rattle.std.proofs.Common.{◌≡◌, ℕ, zero, suc, ◌+◌, ◌-◌, ◌<◌, ◌≤◌, ◌∙◌, ap, sym, subst, arith, List, [], ◌∷◌, length, get_or, Ok, Err}
use Rattle.std.specs.Prelude.{Result, slice_index}
use Rattle.std.proofs.lemmas.Grind.{get_or_default_zero}
use Rattle.directory_input.specs.Reads.{slice_of}
use Rattle.directory_input.specs.Files.{FilesView, FilesLater}
use Rattle.directory_input.proofs.Later.{file_fits_later}
use Rattle.directory_input.specs.Windows.{Window, FitsFile, part_of, window_bytes}
use Rattle.directory_input.proofs.Slices.{slice_of_window}
use Rattle.simpletext_stored.specs.Answers.{StoredPlaces, FitsStored, HasDocument, lines_of_document}
use Rattle.simpletext_stored.specs.Stored.{stored, stored_places}
use Rattle.simpletext_stored.specs.Steps.{AreRising, IsIndexed, document_of}
use Rattle.simpletext_stored.specs.declared.field.StoredField.{StoredField}
use Rattle.simpletext_stored.proofs.Segments.{document_in}

first_within : (p : ℕ) (places : List ℕ) (end : ℕ) → AreRising (p ∷ places) end → p ≤ end
first_within p [] end h = h
first_within p (q ∷ places) end h = let later = first_within q places end h.1 in omega (arith, h.0, later)

-- a place and the one behind it
pub between : (places : List ℕ) (end d : ℕ) → AreRising places end → d + 1 < length places
    → (slice_index places d ≤ slice_index places (d + 1)) × (slice_index places (d + 1) ≤ end)
between [] end d h lt = absurd (omega (arith, lt))
between (p ∷ []) end d h lt = absurd (omega (arith, lt))
between (p ∷ q ∷ places) end zero h lt = (h.0, first_within q places end h.1)
between (p ∷ q ∷ places) end (suc d) h lt =
    let e : suc d + 1 ≡ suc (d + 1) = omega arith in
    let later = between (q ∷ places) end d h.1 (omega (arith, lt)) in
    rw e later

pub place_is : (places : List ℕ) (d p : ℕ) → d < length places → p ≡ get_or places d p → p ≡ slice_index places d
place_is places d p lt is = is ∙ get_or_default_zero places d p lt

pub part_fits : (files : FilesView) (w v : Window) (at len : ℕ) → v ≡ part_of w at len → at + len ≤ w.size → FitsFile files w → FitsFile files v
part_fits files w v at len is le h =
    let inside = h.inside in
    let within : w.start + at + len ≤ files.lengths w.file = omega (arith, le, inside) in
    subst (FitsFile files) (sym is) (record { file = h.file; inside = within; whole = h.whole })

pub stored_fits_later : {x y : FilesView} {t : StoredPlaces} → FilesLater x y → FitsStored x t → FitsStored y t
stored_fits_later later h = record {
  file = file_fits_later later h.file;
  text = rw (later.tells, later.bytes) h.text;
}

module _ (bytes : ℕ → List ℕ) (index : StoredPlaces) (keeps : IsIndexed index.input index.docs index.places) (d : ℕ) (lt : d < index.docs)
    (told : stored_places (window_bytes bytes index.input) index.docs ≡ Ok index.places) (v : Window) (is : v ≡ lines_of_document index d) where
  below : d + 1 < length index.places
  below = let w = keeps.whole in omega (arith, lt, w)

  lines_are : window_bytes bytes v ≡ slice_of (slice_index index.places d) (slice_index index.places (d + 1) - slice_index index.places d) (window_bytes bytes index.input)
  lines_are =
      let order = between index.places index.input.size d keeps.rising below in
      let p = slice_index index.places d in
      let q = slice_index index.places (d + 1) in
      let le : p + (q - p) ≤ index.input.size = omega (arith, order.0, order.1) in
      ap (window_bytes bytes) is ∙ sym (slice_of_window index.input.start index.input.size p (q - p) (bytes index.input.file) le)

  pub fetched : (fields : List StoredField) → document_of d (window_bytes bytes v) ≡ Ok fields → HasDocument (stored (window_bytes bytes index.input) index.docs) d fields
  fetched fields read =
      let own = document_in (window_bytes bytes index.input) index.docs index.places d told below in
      let reads = sym (ap (document_of d) lines_are) ∙ read in
      let same : own.fields ≡ fields = cc (own.reads, reads) in
      subst (λ (r : Result (List (List StoredField)) ℕ). HasDocument r d fields) (sym own.said) (subst (λ fs. HasDocument (Ok own.documents_are) d fs) same own.is)

  pub never : (at : ℕ) → document_of d (window_bytes bytes v) ≡ Err at → ⊥
  never at read =
      let own = document_in (window_bytes bytes index.input) index.docs index.places d told below in
      let reads = sym (ap (document_of d) lines_are) ∙ read in
      absurd (cc (own.reads, reads))
