-- From one state of what gives the bytes to a later one.
use Rattle.std.proofs.Common.{◌≡◌, ℕ, List, [], Option, Some, None, ap, ◌∙◌, Ok, Err}
use Rattle.std.specs.Prelude.{Result, IfOk}
use Rattle.directory_input.specs.Reads.{Read}
use Rattle.directory_input.specs.Files.{GoesOn}
use Rattle.directory_input.specs.Windows.{Window, window_bytes}
use Rattle.simpletext_postings.specs.Postings.{postings}
use Rattle.simpletext_postings.specs.Terms.{TermTable, TermEntry, ReadsEntries}
use Rattle.simpletext_postings.specs.declared.rows.Row.{Row}
use Rattle.shard_search.specs.Sets.{AreRowsOf}

pub rows_later : (bytes bytes' : ℕ → List ℕ) (t : TermTable) (rows : List Row) → bytes' ≡ bytes → AreRowsOf bytes t rows → AreRowsOf bytes' t rows
rows_later bytes bytes' t rows e h = ap (λ f. postings (window_bytes f t.input) t.docs) e ∙ h

-- reads of the entries of a term, if there is one
pub entries_go : {S : Type 0} (goes_by : List Read → S → S → Type 0) (w : Window) (e : Option TermEntry) (x y : S)
    → ((x : S) → goes_by [] x x) → ReadsEntries goes_by w e x y → GoesOn goes_by x y
entries_go goes_by w None x y none h = rw h (record { reads = []; by = none x })
entries_go goes_by w (Some e) x y none h = record { reads = h.reads; by = h.by }

pub ok_map : {T E : Type 0} (r : Result T E) (P Q : T → Type 0) → ((x : T) → P x → Q x) → IfOk r P → IfOk r Q
ok_map (Ok x) P Q f h = f x h
ok_map (Err e) P Q f h = tt
