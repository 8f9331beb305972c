-- The lines of a term's entries, and the documents that they list.
use Rattle.std.specs.Prelude.{ℕ, ◌≡◌, ◌+◌, ◌<◌, ◌≤◌, ◌&&◌, Bool, true, List, [], ◌∷◌, ◌++◌, map, nat_lt, nat_le, Option, Some, None}
use Rattle.std.specs.List.{list_all}
use Rattle.text_lines.specs.Lines.{Taken, Cut}
use Rattle.simpletext_postings.specs.Postings.{form_of}
use Rattle.simpletext_postings.specs.Rows.{RiseWithin}
use Rattle.simpletext_postings.specs.Terms.{posting_doc}
use Rattle.simpletext_postings.specs.Forms.{Form}
use Rattle.simpletext_postings.specs.Forms.{Doc, Pos}
use Rattle.simpletext_postings.specs.declared.posting.Posting.{Posting}
use Rattle.simpletext_postings.specs.declared.collect.Collecting.{Collecting}

-- the positions that stand before the next document
abbrev pub positions_here : List Form → List ℕ
positions_here [] = []
positions_here (Doc d ∷ later) = []
positions_here (Pos p ∷ later) = p ∷ positions_here later
positions_here (_ ∷ later) = positions_here later

-- the documents of lines, each with the positions that follow
abbrev pub listed : List Form → List Posting
listed [] = []
listed (Doc d ∷ later) = record { doc = d; positions = positions_here later } ∷ listed later
listed (_ ∷ later) = listed later

-- documents that rise, from `least` on and below `docs`
abbrev pub rises_from : (docs least : ℕ) → List Form → Bool
rises_from docs least [] = true
rises_from docs least (Doc d ∷ later) = nat_le least d && nat_lt d docs && rises_from docs (d + 1) later
rises_from docs least (_ ∷ later) = rises_from docs least later

abbrev pub line_form : Taken → Form
line_form l = form_of l.content

abbrev pub line_forms : List Taken → List Form
line_forms ls = map line_form ls

abbrev pub is_short : Taken → Bool
is_short l = nat_le l.size 16777216

-- a text of whole lines, whose documents rise from `least` on
pub record IsEntryText (docs least : ℕ) (c : Cut) : Type 0 where
  pub whole : c.tail.size ≡ 0
  pub short : list_all is_short c.lines ≡ true
  pub rising : rises_from docs least (line_forms c.lines) ≡ true

-- ---- collecting them

-- a document with more positions
abbrev pub with_positions : Option Posting → List ℕ → List Posting
with_positions None more = []
with_positions (Some p) more = record { doc = p.doc; positions = p.positions ++ more } ∷ []

-- the documents so far and those of the later lines
abbrev pub collected : Collecting → List Form → List Posting
collected c later = c.found.items ++ with_positions c.last (positions_here later) ++ listed later

-- the documents so far
abbrev pub so_far : Collecting → List Posting
so_far c = c.found.items ++ with_positions c.last []

-- they rise, and the next one from `least` on may stand behind them
pub record Rises (c : Collecting) : Type 0 where
  pub rise : RiseWithin 0 c.docs (map posting_doc (so_far c))
  pub next : (d : ℕ) → c.least ≤ d → d < c.docs → RiseWithin 0 c.docs (map posting_doc (so_far c) ++ d ∷ [])

-- a line of a form is taken, or refused where its document does not rise
pub record Collects (form : Form) (old new : Collecting) (answer : Bool) : Type 0 where
  pub docs : new.docs ≡ old.docs
  pub same : (later : List Form) → rises_from old.docs old.least (form ∷ later) ≡ true → (answer ≡ true) × (rises_from new.docs new.least later ≡ true)
  pub more : answer ≡ true → (later : List Form) → collected new later ≡ collected old (form ∷ later)
  pub rises : answer ≡ true → Rises old → Rises new
