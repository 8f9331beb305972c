-- What is made of a seed, a number of documents and a number of terms.
use Rattle.std.specs.Prelude.{ℕ, ◌≡◌, ◌*◌, ◌≤◌, List, [], ◌∷◌, ◌++◌, map, length, None, Ok, codes}
use Rattle.std.specs.List.{concat}
use Rattle.mount_manifest.specs.Manifest.{Facts, manifest}
use Rattle.mount_manifest.specs.declared.record.FileRecord.{FileRecord}
use Rattle.mount_manifest.specs.declared.record.Segment.{Segment}
use Rattle.simpletext_postings.specs.Postings.{postings}
use Rattle.shard_maker.specs.MadeRows.{made_rows}
use Rattle.shard_maker.specs.Cuts.{part_blobs}

-- numbers of documents and terms of which something can be made
pub record AreLimits (docs terms : ℕ) : Type 0 where
  pub some_docs : 1 ≤ docs
  pub few_docs : docs ≤ 100000
  pub some_terms : 1 ≤ terms
  pub few_terms : terms ≤ 100000
  pub pairs : docs * terms ≤ 4000000

-- the one file, by the length of its text in bytes
abbrev pub made_file : ℕ → FileRecord
made_file size = record { name = codes "__made"; physical_name = codes "_0.pst"; length = size; part_size = 4096 }

-- the one segment
abbrev pub made_segment : ℕ → Segment
made_segment docs = record { name = codes "_0"; docs = docs; postings = 0; stored = None; live = None }

abbrev pub made_facts : ℕ → ℕ → Facts
made_facts docs size = record { files = made_file size ∷ []; segments = made_segment docs ∷ [] }

-- blobs that are the parts of a postings text for so many documents, in order, and the text of its manifest behind them
pub record AreMadeBlobs (docs : ℕ) (text : List ℕ) (blobs : List (List ℕ × List ℕ)) : Type 0 where
  pub told : List ℕ
  pub manifest : manifest told ≡ Ok (made_facts docs (length text))
  pub parts : blobs ≡ part_blobs (made_file (length text)) text ++ (codes "mount-made", told) ∷ []
  pub joined : concat (map (λ b. b.1) (part_blobs (made_file (length text)) text)) ≡ text

-- such blobs, of a text of the rows that are made
pub record IsMadeArchive (seed docs terms : ℕ) (blobs : List (List ℕ × List ℕ)) : Type 0 where
  pub text : List ℕ
  pub rows : postings text docs ≡ Ok (made_rows seed docs terms)
  pub made : AreMadeBlobs docs text blobs
