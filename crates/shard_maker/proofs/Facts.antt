-- The manifest's text is read as what is made.
use Rattle.std.proofs.Common.{◌≡◌, ◌≤◌, refl, arith, ℕ, List, [], ◌∷◌, length, length-append, Some, None, Ok}
use Rattle.std.specs.Prelude.{codes, IsUtf8}
use Rattle.std.proofs.lemmas.Fmt.{length-decimal-le}
use Rattle.std.proofs.lemmas.Str.{is_utf8-from_IsUtf8}
use Rattle.std.proofs.lemmas.Grind.{div_ceil_times}
use Rattle.std.proofs.lemmas.Bool.{le-ltb}
use Rattle.serde_json.specs.Read.{read}
use Rattle.serde_json.specs.Data.{unsigned}
use Rattle.serde_json.specs.Written.{compact_text, number_text}
use Rattle.serde_json.proofs.OnLiterals.{serde_json_on_literals}
use Rattle.mount_manifest.specs.Json.{json_of}
use Rattle.mount_manifest.specs.Manifest.{Shaped, manifest, shaped, file_facts, segment_facts, checked, file_limits, placed, sum_with}
use Rattle.mount_manifest.specs.declared.record.NamedSegment.{NamedSegment}
use Rattle.shard_maker.specs.Manifests.{manifest_value}
use Rattle.shard_maker.specs.Made.{made_file, made_facts}

abbrev named : ℕ → NamedSegment
named docs = record { name = codes "_0"; docs = docs; postings = codes "_0.pst"; stored = None; live = None }

abbrev form : ℕ → ℕ → Shaped
form docs size = record { files = made_file size ∷ []; segments = named docs ∷ [] }

has_form : (docs size : ℕ) → shaped (manifest_value docs size) ≡ Ok (form docs size)
unfolding shaped file_facts segment_facts serde_json_on_literals
has_form docs size = refl

few_parts : (size : ℕ) → size ≤ 4294967296 → sum_with 0 (made_file size) ≤ 1048576
few_parts size h =
    let round = div_ceil_times size 4096 (omega arith) in
    omega (arith, h, round.1)

is_checked : (docs size : ℕ) → docs ≤ 100000 → size ≤ 4294967296 → checked (form docs size) ≡ Ok (made_facts docs size)
unfolding checked file_limits placed
is_checked docs size few small =
    rw (le-ltb 1099511623680 size (omega (arith, small)), le-ltb 1048576 (sum_with 0 (made_file size)) (few_parts size small), le-ltb 16777216 docs (omega (arith, few)))

digits : (n : ℕ) → n ≤ 4294967296 → length (number_text (unsigned n)) ≤ 20
digits n small = length-decimal-le 20 n (omega arith) (omega (arith, small)) (omega (arith, small))

short_text : (docs size : ℕ) → docs ≤ 100000 → size ≤ 4294967296 → length (compact_text (manifest_value docs size)) ≤ 1000
unfolding serde_json_on_literals
short_text docs size few small =
    let a = digits docs (omega (arith, few)) in let b = digits size small in let c = digits 4096 (omega arith) in let d = digits 1 (omega arith) in
    simp length-append (omega (arith, a, b, c, d))

pub manifest_is : (docs size : ℕ) (text : List ℕ) → docs ≤ 100000 → size ≤ 4294967296 → IsUtf8 text → text ≡ compact_text (manifest_value docs size)
    → read text ≡ Some (manifest_value docs size) → manifest text ≡ Ok (made_facts docs size)
manifest_is docs size text few small utf8 is back =
    let short : length text ≤ 16777216 = rw is (omega (arith, short_text docs size few small)) in
    let json : json_of text ≡ Some (manifest_value docs size) = rw (is_utf8-from_IsUtf8 text utf8) back in
    rw (le-ltb 16777216 (length text) short, json, has_form docs size) (is_checked docs size few small)
