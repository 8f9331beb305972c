-- What a text says is sound, since all passes over it were Ok.
use Rattle.std.proofs.Common.{◌≡◌, [], length, Result, Ok, refl, ap, subst}
use Rattle.std.specs.Prelude.{codes, option_and_then}
use Rattle.serde_json.specs.Data.{Data}
use Rattle.serde_json.specs.Find.{as_object}
use Rattle.mount_manifest.specs.Steps.{or_refuse, at_most, each}
use Rattle.mount_manifest.specs.Json.{json_of, whole_at, objects_at}
use Rattle.mount_manifest.specs.Manifest.{shape, one, Facts, Shaped, file_facts, segment_facts, shaped, checked, no_doubles, same_file, physical_name_of, same_segment, segment_name_of, all_file_limits, all_segment_limits, placed}
use Rattle.mount_manifest.specs.Sound.{AllNamed, IsSound, AreSound}
use Rattle.mount_manifest.specs.declared.error.Field.TheVariants as field
use Rattle.mount_manifest.specs.declared.error.ManifestError.{ManifestError}
use Rattle.mount_manifest.specs.declared.error.ManifestError.TheVariants.{NotJson}
use Rattle.mount_manifest.proofs.Steps.{both, within}
use Rattle.mount_manifest.proofs.Sound.{all_named, few_docs}
use Rattle.mount_manifest.proofs.Whole.{sound}

same_ok : {A : Type 0} (a b : A) (r : Result A ManifestError) → r ≡ Ok a → r ≡ Ok b → a ≡ b
same_ok a b r e f = cc

shaped_named : (d : Data) (s : Shaped) → shaped d ≡ Ok s → AllNamed s.files
unfolding shaped
shaped_named d s h =
    let members = both (shape field.Manifest (as_object d)) _ s h in
    let version = both (shape field.Version (option_and_then one (whole_at (codes "version") d))) _ s members.2 in
    let list = both (shape field.Files (objects_at (codes "files") d)) _ s version.2 in
    let files = both (each file_facts list.0) _ s list.2 in
    let segment_list = both (shape field.Segments (objects_at (codes "segments") d)) _ s files.2 in
    let segments = both (each segment_facts segment_list.0) _ s segment_list.2 in
    let e = segments.2 in
    let built : Shaped = record { files = files.0; segments = segments.0 } in
    let same : files.0 ≡ s.files = ap (λ (t : Shaped). t.files) (same_ok built s (Ok built) refl e) in
    subst AllNamed same (all_named list.0 files.0 files.1)

checked_sound : (s : Shaped) (m : Facts) → AllNamed s.files → checked s ≡ Ok m → IsSound m
unfolding checked
checked_sound s m named h =
    let few_files = both (at_most 4096 field.Files (length s.files)) _ m h in
    let parts = both (all_file_limits 0 s.files) _ m few_files.2 in
    let few_segments = both (at_most 1024 field.Segments (length s.segments)) _ m parts.2 in
    let small_segments = both (all_segment_limits s.segments) _ m few_segments.2 in
    let file_names = both (no_doubles same_file physical_name_of [] s.files) _ m small_segments.2 in
    let segment_names = both (no_doubles same_segment segment_name_of [] s.segments) _ m file_names.2 in
    let segments = both (each (placed s.files) s.segments) _ m segment_names.2 in
    let e = segments.2 in
    let built : Facts = record { files = s.files; segments = segments.0 } in
    let same : built ≡ m = same_ok built m (Ok built) refl e in
    subst IsSound same
    (sound s.files s.segments segments.0 parts.0 file_names.0 segment_names.0 named
    (within 4096 field.Files (length s.files) few_files.0 few_files.1) parts.1
    (within 1024 field.Segments (length s.segments) few_segments.0 few_segments.1)
    (few_docs s.segments small_segments.0 small_segments.1) file_names.1 segment_names.1 segments.1)

pub read_sound : AreSound
read_sound text m h =
    let size = both (at_most 16777216 field.Bytes (length text)) _ m h in
    let value = both (or_refuse NotJson (json_of text)) _ m size.2 in
    let form = both (shaped value.0) _ m value.2 in
    checked_sound form.0 m (shaped_named value.0 form.0 form.1) form.2
