-- What the passes have shown, once all of them were Ok.
use Rattle.std.proofs.Common.{◌≡◌, ℕ, zero, suc, ◌+◌, ◌<◌, ◌≤◌, ◌-◌, ◌^◌, min, max, List, [], ◌∷◌, length, drop, Bool, true, false, Option, Some, None, Ok, refl, sym, ◌∙◌, ap, arith}
use Rattle.std.specs.Prelude.{slice_get, nat_le, nat_eq, sum_by, option_and_then, unwrap_or, codes, ⊤, not, ◌&&◌}
use Rattle.std.specs.List.{starts_with}
use Rattle.std.proofs.lemmas.List.Sums.{sum_by-cons}
use Rattle.std.proofs.lemmas.Bool.{and_parts}
use Rattle.std.proofs.lemmas.Bool.Decides.{nat_tests}
use Rattle.serde_json.specs.Data.{Data}
use Rattle.mount_manifest.specs.Steps.{◌>>=◌, at_most, each}
use Rattle.mount_manifest.specs.Json.{name_at}
use Rattle.mount_manifest.specs.Parts.{parts_of}
use Rattle.mount_manifest.specs.Manifest.{shape, file_name, is_file_name, file_facts, ends_with, is_part_end, not_zero, sum_with, file_limits, all_file_limits, segment_limits, all_segment_limits}
use Rattle.mount_manifest.specs.Sound.{FewDocs, AllNamed}
use Rattle.mount_manifest.specs.declared.record.FileRecord.{FileRecord}
use Rattle.mount_manifest.specs.declared.record.NamedSegment.{NamedSegment}
use Rattle.mount_manifest.specs.declared.error.Field.TheVariants as field
use Rattle.mount_manifest.proofs.Steps.{both, within, came_from}

-- ---- names of data

name_kept : (o : Option (List ℕ)) (n : List ℕ) → option_and_then file_name o ≡ Some n → is_file_name n ≡ true
name_kept None n h = absurd (cc)
name_kept (Some m) n h = by_cases (is_file_name m) refl
  where
    by_cases : (b : Bool) → is_file_name m ≡ b → is_file_name n ≡ true
    by_cases true e = let s = rw e at h in let same : m ≡ n = cc in rw (sym same) e
    by_cases false e = absurd (let s = rw e at h in cc)

-- the name of a record that was built of four members
name_of_record : (name physical_name : Option (List ℕ)) (len : Option ℕ) (size : Option (Option ℕ)) (f : FileRecord)
    → (shape field.Name name >>= (λ n. shape field.PhysicalName physical_name >>= (λ p. shape field.Length len >>= (λ l. shape field.PartSize size >>= (λ s.
    Ok (record { name = n; physical_name = p; length = l; part_size = unwrap_or s (max l 1) })))))) ≡ Ok f
    → name ≡ Some f.name
name_of_record None p l s f h = absurd (cc)
name_of_record (Some n) None l s f h = absurd (cc)
name_of_record (Some n) (Some p) None s f h = absurd (cc)
name_of_record (Some n) (Some p) (Some l) None f h = absurd (cc)
name_of_record (Some n) (Some p) (Some l) (Some s) f h =
    let r : FileRecord = record { name = n; physical_name = p; length = l; part_size = unwrap_or s (max l 1) } in
    let same : r ≡ f = cc in
    ap (λ (g : FileRecord). Some g.name) same

named : (d : Data) (f : FileRecord) → file_facts d ≡ Ok f → is_file_name f.name ≡ true
unfolding file_facts
named d f h = name_kept (name_at (codes "name") d) f.name (name_of_record _ _ _ _ f h)

pub all_named : (ds : List Data) (fs : List FileRecord) → each file_facts ds ≡ Ok fs → AllNamed fs
all_named ds fs h i f at = let from = came_from file_facts ds fs h i f at in named from.0 f from.2

-- ---- ends of bytes

pub ends_later : (passes : List ℕ → Bool) (bs : List ℕ) (i : ℕ) (whole : Bool) → i < length bs → passes (drop i bs) ≡ false
    → ends_with passes (drop i bs) ≡ whole → ends_with passes (drop (suc i) bs) ≡ whole
ends_later passes [] i whole inside fails h = absurd (omega arith)
ends_later passes (b ∷ bs) zero whole inside fails h = let e = rw fails at h in e
ends_later passes (b ∷ bs) (suc i) whole inside fails h = ends_later passes bs i whole (omega arith) fails h

-- ---- limits

at_least_one : (n : ℕ) (u : ⊤) → not_zero field.PartSize n ≡ Ok u → 1 ≤ n
at_least_one zero u h = absurd (cc)
at_least_one (suc n) u h = omega arith

sum_small : (sum parts : ℕ) → min (sum + parts) (2 ^ 64 - 1) ≤ 1048576 → sum + parts ≤ 1048576
sum_small sum parts h = omega arith

one_file : (sum : ℕ) (f : FileRecord) (n : ℕ) → file_limits sum f ≡ Ok n
    → (n ≡ sum + parts_of f) × (n ≤ 1048576) × (f.length ≤ 1099511623680) × (1 ≤ f.part_size)
unfolding file_limits
one_file sum f n h =
    let short = both (at_most 1099511623680 field.Length f.length) _ n h in
    let cut = both (not_zero field.PartSize f.part_size) _ n short.2 in
    let few = both (at_most 1048576 field.Parts (sum_with sum f)) _ n cut.2 in
    let same : sum_with sum f ≡ n = let e = few.2 in cc in
    let small : sum_with sum f ≤ 1048576 = within 1048576 field.Parts (sum_with sum f) few.0 few.1 in
    let whole : sum + parts_of f ≤ 1048576 = sum_small sum (parts_of f) small in
    (sym same ∙ omega arith, rw (sym same) small, within _ field.Length f.length short.0 short.1, at_least_one f.part_size cut.0 cut.1)

pub files_within : (sum : ℕ) (fs : List FileRecord) (n : ℕ) → sum ≤ 1048576 → all_file_limits sum fs ≡ Ok n
    → (sum + sum_by parts_of fs ≡ n) × (n ≤ 1048576)
    × ((i : ℕ) (f : FileRecord) → slice_get fs i ≡ Some f → (f.length ≤ 1099511623680) × (1 ≤ f.part_size))
files_within sum [] n s h =
    let same : sum ≡ n = cc in (omega arith, rw (sym same) s, λ i f at. absurd (cc))
files_within sum (f ∷ fs) n s h =
    let first = both (file_limits sum f) _ n h in
    let one = one_file sum f first.0 first.1 in
    let rest = files_within first.0 fs n one.1 first.2 in
    let total : sum + sum_by parts_of (f ∷ fs) ≡ n =
    rw (sum_by-cons parts_of f fs) (let a = one.0 in let b = rest.0 in omega arith) in
    (total, rest.1, each_place (one.2, one.3) rest.2)
  where
    each_place : (f.length ≤ 1099511623680) × (1 ≤ f.part_size)
        → ((i : ℕ) (g : FileRecord) → slice_get fs i ≡ Some g → (g.length ≤ 1099511623680) × (1 ≤ g.part_size))
        → (i : ℕ) (g : FileRecord) → slice_get (f ∷ fs) i ≡ Some g → (g.length ≤ 1099511623680) × (1 ≤ g.part_size)
    each_place here later zero g at = let same : f ≡ g = cc in rw (sym same) here
    each_place here later (suc i) g at = later i g at

pub few_docs : (ss : List NamedSegment) (u : ⊤) → all_segment_limits ss ≡ Ok u → FewDocs ss
few_docs [] u h i s at = absurd (cc)
few_docs (r ∷ rs) u h zero s at =
    let first = both (segment_limits r) _ u h in
    let same : r ≡ s = cc in
    rw (sym same) (within 16777216 field.Docs r.docs first.0 first.1)
few_docs (r ∷ rs) u h (suc i) s at = let first = both (segment_limits r) _ u h in few_docs rs u first.2 i s at

pub short_name : (f : FileRecord) → is_file_name f.name ≡ true → length f.name ≤ 200
short_name f h =
    let start = and_parts (nat_le 3 (length f.name) && nat_le (length f.name) 200 && starts_with nat_eq f.name (codes "__")) (not (ends_with is_part_end f.name)) h in
    let size = and_parts (nat_le 3 (length f.name) && nat_le (length f.name) 200) (starts_with nat_eq f.name (codes "__")) start.0 in
    let most = (and_parts (nat_le 3 (length f.name)) (nat_le (length f.name) 200) size.0).1 in
    grind (arith, nat_tests)
