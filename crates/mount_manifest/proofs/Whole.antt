-- What all passes together have shown of a manifest.
use Rattle.std.proofs.Common.{◌≡◌, ℕ, ◌≤◌, ◌*◌, List, [], length, Ok, Some, sym, ◌∙◌, arith}
use Rattle.std.specs.Prelude.{slice_get, sum_by, get_or, ⊤}
use Rattle.std.proofs.lemmas.Slice.Eq.{bytes_eq-Decides}
use Rattle.std.proofs.lemmas.List.Sums.{sum_by-le}
use Rattle.std.proofs.lemmas.Option.{slice_get-get_or}
use Rattle.std.proofs.lemmas.Nat.{mul-le}
use Rattle.std.proofs.lemmas.Bool.{or_left, or_right}
use Rattle.mount_manifest.specs.Steps.{each}
use Rattle.mount_manifest.specs.Manifest.{Facts, no_doubles, same_file, physical_name_of, same_segment, segment_name_of, all_file_limits, placed}
use Rattle.mount_manifest.specs.Sound.{AllNamed, FewDocs, IsSegment, IsSound, DiffersBy}
use Rattle.mount_manifest.specs.declared.record.FileRecord.{FileRecord}
use Rattle.mount_manifest.specs.declared.record.NamedSegment.{NamedSegment}
use Rattle.mount_manifest.specs.declared.record.Segment.{Segment}
use Rattle.mount_manifest.proofs.Steps.{came_from, length_kept}
use Rattle.mount_manifest.proofs.Sound.{files_within, short_name}
use Rattle.mount_manifest.proofs.Doubles.{differ}
use Rattle.mount_manifest.proofs.Placed.{placed_below}

segment_differ : (files : List FileRecord) (named : List NamedSegment) (segments : List Segment) → each (placed files) named ≡ Ok segments
    → DiffersBy segment_name_of named → DiffersBy (λ s. s.name) segments
segment_differ files named segments h apart i j x y at to eq =
    let a = came_from (placed files) named segments h i x at in
    let b = came_from (placed files) named segments h j y to in
    let p = placed_below files a.0 x a.2 in
    let q = placed_below files b.0 y b.2 in
    apart i j a.0 b.0 a.1 b.1 (sym p.0 ∙ eq ∙ q.0)

pub sound : (files : List FileRecord) (named : List NamedSegment) (segments : List Segment) (parts : ℕ) (u v : ⊤)
    → AllNamed files → length files ≤ 4096 → all_file_limits 0 files ≡ Ok parts → length named ≤ 1024 → FewDocs named
    → no_doubles same_file physical_name_of [] files ≡ Ok u → no_doubles same_segment segment_name_of [] named ≡ Ok v
    → each (placed files) named ≡ Ok segments
    → IsSound (record { files = files; segments = segments })
sound files named segments parts u v good few_files limits few_named docs file_names segment_names places =
    let within = files_within 0 files parts (omega arith) limits in
    record {
      few_files = few_files;
      few_segments = rw (length_kept (placed files) named segments places) few_named;
      few_parts = let a = within.0 in let b = within.1 in omega arith;
      file = λ i f at. record { named = good i f at; name = short_name f (good i f at); short = (within.2 i f at).0; cut = (within.2 i f at).1 };
      segment = λ i t at. one_segment i t at;
      physical_names = differ same_file physical_name_of physical_name_of files u file_names (λ x y e. or_left _ _ ((bytes_eq-Decides _ _).1 e));
      names = differ same_file physical_name_of (λ f. f.name) files u file_names (λ x y e. or_right _ _ ((bytes_eq-Decides _ _).1 e));
      segment_names = segment_differ files named segments places
          (differ same_segment segment_name_of segment_name_of named v segment_names (λ x y e. (bytes_eq-Decides _ _).1 e));
    }
  where
    one_segment : (i : ℕ) (t : Segment) → slice_get segments i ≡ Some t → IsSegment (length files) t
    one_segment i t at =
        let a = came_from (placed files) named segments places i t at in
        let p = placed_below files a.0 t a.2 in
        record { docs = rw p.1 (docs i a.0 a.1); postings = p.2; stored = p.3; live = p.4 }

-- the documents of all segments
pub docs_fit : (m : Facts) → IsSound m → sum_by (λ s. s.docs) m.segments ≤ 1024 * 16777216
docs_fit m s =
    let most = sum_by-le (λ (t : Segment). t.docs) 16777216 m.segments
    (λ k d inside. (s.segment k (get_or m.segments k d) (slice_get-get_or m.segments k d inside)).docs) in
    let few = s.few_segments in
    omega (arith, mul-le (length m.segments) 16777216 1024 16777216 few (omega arith))
