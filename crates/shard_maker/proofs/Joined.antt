-- The parts of a file, joined, are its text.
use Rattle.std.proofs.Common.{◌≡◌, ◌∙◌, ◌+◌, ◌*◌, refl, sym, ap, arith, ℕ, zero, suc, List, [], ◌∷◌, ◌++◌, map, length, take, drop}
use Rattle.std.specs.Prelude.{min}
use Rattle.std.specs.List.{concat, range_with_len}
use Rattle.std.proofs.Math.Seq.{take-add}
use Rattle.std.proofs.lemmas.List.{take_min, take_all, length-drop, append-nil}
use Rattle.std.proofs.lemmas.List.Folds.{concat-append}
use Rattle.std.proofs.lemmas.Grind.{div_ceil_times}
use Rattle.mount_manifest.specs.declared.record.FileRecord.{FileRecord}
use Rattle.mount_manifest.specs.Parts.{parts_of}
use Rattle.shard_maker.specs.Cuts.{part_bytes, part_blob, first_blobs, part_blobs}
use Rattle.shard_maker.specs.Made.{made_file}
use Rattle.shard_maker.proofs.Lists.{range_more, range_suc, map_more}

-- part k is the next bytes of the text, as many as the part size or all that are left
next_bytes : (text : List ℕ) (k : ℕ) → part_bytes (made_file (length text)) text k ≡ take 4096 (drop (k * 4096) text)
next_bytes text k = ap (λ n. take (min 4096 n) (drop (k * 4096) text)) (sym (length-drop (k * 4096) text)) ∙ take_min 4096 (drop (k * 4096) text)

pub joined_first : (text : List ℕ) (n : ℕ) → concat (map (λ b. b.1) (first_blobs (made_file (length text)) text n)) ≡ take (n * 4096) text
joined_first text zero = refl
joined_first text (suc n) =
    let blobs = map_more (part_blob (made_file (length text)) text) (range_with_len 0 n) (range_with_len 0 (suc n)) n (range_suc n) in
    let before = map (λ b. b.1) (first_blobs (made_file (length text)) text n) in
    let bytes = map_more (λ b. b.1) (first_blobs (made_file (length text)) text n) (first_blobs (made_file (length text)) text (suc n)) (part_blob (made_file (length text)) text n) blobs in
    let last : concat (part_bytes (made_file (length text)) text n ∷ []) ≡ take 4096 (drop (n * 4096) text) = append-nil (part_bytes (made_file (length text)) text n) ∙ next_bytes text n in
    ap concat bytes ∙ concat-append before (part_bytes (made_file (length text)) text n ∷ []) ∙ ap (λ xs. xs ++ concat (part_bytes (made_file (length text)) text n ∷ [])) (joined_first text n)
    ∙ ap (λ xs. take (n * 4096) text ++ xs) last ∙ sym (take-add (n * 4096) 4096 text) ∙ ap (λ m. take m text) (omega arith)

pub joined : (text : List ℕ) → concat (map (λ b. b.1) (part_blobs (made_file (length text)) text)) ≡ text
joined text =
    let enough = div_ceil_times (length text) 4096 (omega arith) in
    joined_first text (parts_of (made_file (length text))) ∙ take_all _ text (omega (arith, enough.0))

pub blobs_more : (f : FileRecord) (text : List ℕ) (n : ℕ) → first_blobs f text (n + 1) ≡ first_blobs f text n ++ part_blob f text n ∷ []
blobs_more f text n = map_more (part_blob f text) (range_with_len 0 n) (range_with_len 0 (n + 1)) n (range_more n)
