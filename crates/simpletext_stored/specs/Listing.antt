-- Reading a text of live documents line by line.
use Rattle.std.specs.Prelude.{ℕ, ◌≡◌, ◌<◌, ◌≤◌, ◌+◌, ◌==◌, Bool, true, false, List, [], ◌∷◌, Option, Some, None, length, slice_index_or, slice_set}
use Rattle.std.specs.List.{list_any}
use Rattle.simpletext_stored.specs.Reading.{Lines}
use Rattle.simpletext_stored.specs.Live.{last, last_doc, is_allowed, doc_numbers}
use Rattle.simpletext_stored.specs.declared.live_form.LiveForm.{LiveForm}
use Rattle.simpletext_stored.specs.declared.live_form.LiveForm.TheVariants.{Size, Doc, End, Checksum, Unknown}
use Rattle.simpletext_stored.specs.declared.live_state.LiveState.{LiveState}

-- the state of a reader after the lines of `past`
pub record IsLiveState (past : List LiveForm) (state : LiveState) : Type 0 where
  pub last_is : state.last ≡ last past
  pub doc_is : state.doc ≡ last_doc past

-- the answer says whether the form is allowed, and then the state is that after it
pub record LiveStep (docs : ℕ) (past : List LiveForm) (form : LiveForm) (new : LiveState) (answer : Bool) : Type 0 where
  pub same : answer ≡ is_allowed docs past form
  pub after : answer ≡ true → IsLiveState (form ∷ past) new

-- ---- the set

-- a document line names a document of these
abbrev pub IsDocWithin : ℕ → LiveForm → Type 0
IsDocWithin docs (Size n) = Unit {0}
IsDocWithin docs (Doc n) = n < docs
IsDocWithin docs End = Unit {0}
IsDocWithin docs Checksum = Unit {0}
IsDocWithin docs Unknown = Unit {0}

-- a set with the document of a line
abbrev pub with_doc : LiveForm → List Bool → List Bool
with_doc (Doc n) bits = slice_set bits n true
with_doc _ bits = bits

abbrev pub is_in : List ℕ → ℕ → Bool
is_in numbers i = list_any (λ n. n == i) numbers

-- numbers from `low` on and below `high`, each above the one before
abbrev pub RiseWithin : ℕ → ℕ → List ℕ → Type 0
RiseWithin low high [] = Unit {0}
RiseWithin low high (d ∷ ds) = (low ≤ d) × (d < high) × RiseWithin (d + 1) high ds

-- the documents below which the next one may not be
abbrev pub bound : Option ℕ → ℕ
bound None = 0
bound (Some m) = m + 1

-- the set has these numbers, which rise
pub record IsSetOf (docs : ℕ) (doc : Option ℕ) (numbers : List ℕ) (bits : List Bool) : Type 0 where
  pub rising : RiseWithin 0 (bound doc) numbers
  pub bounded : bound doc ≤ docs
  pub same : (i : ℕ) → slice_index_or bits i false ≡ is_in numbers i

-- what is held of the lines in `kept`
pub record HoldsLive (docs : ℕ) (past : List LiveForm) (kept : Lines LiveForm) (state : LiveState) (bits : List Bool) : Type 0 where
  pub is : IsLiveState past state
  pub size : length bits ≡ docs
  pub set : IsSetOf docs (last_doc past) (doc_numbers kept) bits
