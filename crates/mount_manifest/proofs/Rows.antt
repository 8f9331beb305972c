-- Worked texts, computed by the definitions.
use Rattle.std.proofs.Common.{◌≡◌, ℕ, List, [], ◌∷◌, ◌++◌, Option, Ok, Err, Some, None, refl}
use Rattle.std.specs.Prelude.{codes, Result}
use Rattle.std.specs.Fmt.{decimal}
use Rattle.std.specs.Str.{is_utf8, chars}
use Rattle.serde_json.proofs.OnLiterals.{serde_json_on_literals}
use Rattle.mount_manifest.specs.Parts.{part_count, part_length, part_name}
use Rattle.mount_manifest.specs.Manifest.{Facts, manifest, shaped, file_facts, segment_facts, file_limits, placed, checked}
use Rattle.mount_manifest.specs.declared.record.FileRecord.{FileRecord}
use Rattle.mount_manifest.specs.declared.record.Segment.{Segment}
use Rattle.mount_manifest.specs.declared.error.ManifestError.{ManifestError}
use Rattle.mount_manifest.specs.declared.error.ManifestError.TheVariants.{NotJson, Shape, Limit, Double, NoFile}
use Rattle.mount_manifest.specs.declared.error.Field.TheVariants as field

abbrev file : List ℕ → List ℕ → ℕ → ℕ → FileRecord
file name physical_name len size = record { name = name; physical_name = physical_name; length = len; part_size = size }

abbrev segment : List ℕ → ℕ → ℕ → Option ℕ → Option ℕ → Segment
segment name docs postings stored live = record { name = name; docs = docs; postings = postings; stored = stored; live = live }

abbrev facts : List FileRecord → List Segment → Result Facts ManifestError
facts files segments = Ok (record { files = files; segments = segments })

-- ---- parts

pub two_parts : part_count 172 100 ≡ 2
two_parts = refl

pub whole_parts : part_count 200 100 ≡ 2
whole_parts = refl

pub empty_file : part_count 0 1 ≡ 1
empty_file = refl

pub first_part : part_length 172 100 0 ≡ 100
first_part = refl

pub last_part : part_length 172 100 1 ≡ 72
last_part = refl

pub last_whole : part_length 200 100 1 ≡ 100
last_whole = refl

pub second_name : part_name (file (codes "__a") (codes "_0.pst") 172 100) 1 ≡ codes "__a.part" ++ decimal 1
second_name = refl

pub only_name : part_name (file (codes "__b") (codes "big.bin") 10000 10000) 0 ≡ codes "__b"
only_name = refl

-- ---- texts

pub mount_x : manifest (codes "{\"version\":1,\"files\":[{\"name\":\"__a\",\"physical_name\":\"_0.pst\",\"length\":172,\"part_size\":100}],\"segments\":[{\"name\":\"_0\",\"docs\":3,\"postings\":\"_0.pst\"}]}")
    ≡ facts (file (codes "__a") (codes "_0.pst") 172 100 ∷ []) (segment (codes "_0") 3 0 None None ∷ [])
unfolding checked placed shaped file_facts segment_facts file_limits is_utf8 chars serde_json_on_literals
mount_x = refl

pub mount_y : manifest (codes "{\"version\":1,\"files\":[{\"name\":\"__b\",\"physical_name\":\"big.bin\",\"length\":10000}],\"segments\":[]}")
    ≡ facts (file (codes "__b") (codes "big.bin") 10000 10000 ∷ []) []
unfolding checked placed shaped file_facts segment_facts file_limits is_utf8 chars serde_json_on_literals
mount_y = refl

pub mount_w : manifest (codes "{\"version\":1,\"files\":[{\"name\":\"__w\",\"physical_name\":\"_0.pst\",\"length\":136}],\"segments\":[{\"name\":\"_0\",\"docs\":3,\"postings\":\"_0.pst\"}]}")
    ≡ facts (file (codes "__w") (codes "_0.pst") 136 136 ∷ []) (segment (codes "_0") 3 0 None None ∷ [])
unfolding checked placed shaped file_facts segment_facts file_limits is_utf8 chars serde_json_on_literals
mount_w = refl

pub mount_z : manifest (codes "{\"version\":1,\"files\":[{\"name\":\"__a\",\"physical_name\":\"_0.pst\",\"length\":172,\"part_size\":100},{\"name\":\"__c\",\"physical_name\":\"_0.fld\",\"length\":111},{\"name\":\"__d\",\"physical_name\":\"_0_1.liv\",\"length\":57}],\"segments\":[{\"name\":\"_0\",\"docs\":3,\"postings\":\"_0.pst\",\"stored\":\"_0.fld\",\"live\":\"_0_1.liv\"}]}")
    ≡ facts (file (codes "__a") (codes "_0.pst") 172 100 ∷ file (codes "__c") (codes "_0.fld") 111 111 ∷ file (codes "__d") (codes "_0_1.liv") 57 57 ∷ [])
    (segment (codes "_0") 3 0 (Some 1) (Some 2) ∷ [])
unfolding checked placed shaped file_facts segment_facts file_limits is_utf8 chars serde_json_on_literals
mount_z = refl

pub no_json : manifest (codes "{")
    ≡ Err NotJson
unfolding checked placed shaped file_facts segment_facts file_limits is_utf8 chars serde_json_on_literals
no_json = refl

pub no_length : manifest (codes "{\"version\":1,\"files\":[{\"name\":\"__a\",\"physical_name\":\"f\"}],\"segments\":[]}")
    ≡ Err (Shape field.Length)
unfolding checked placed shaped file_facts segment_facts file_limits is_utf8 chars serde_json_on_literals
no_length = refl

pub long_file : manifest (codes "{\"version\":1,\"files\":[{\"name\":\"__a\",\"physical_name\":\"f\",\"length\":1099511623681}],\"segments\":[]}")
    ≡ Err (Limit field.Length 1099511623681)
unfolding checked placed shaped file_facts segment_facts file_limits is_utf8 chars serde_json_on_literals
long_file = refl

pub longest_file : manifest (codes "{\"version\":1,\"files\":[{\"name\":\"__a\",\"physical_name\":\"f\",\"length\":1099511623680}],\"segments\":[]}")
    ≡ facts (file (codes "__a") (codes "f") 1099511623680 1099511623680 ∷ []) []
unfolding checked placed shaped file_facts segment_facts file_limits is_utf8 chars serde_json_on_literals
longest_file = refl

pub double_file : manifest (codes "{\"version\":1,\"files\":[{\"name\":\"__a\",\"physical_name\":\"f\",\"length\":1},{\"name\":\"__b\",\"physical_name\":\"f\",\"length\":1}],\"segments\":[]}")
    ≡ Err (Double (codes "f"))
unfolding checked placed shaped file_facts segment_facts file_limits is_utf8 chars serde_json_on_literals
double_file = refl

pub double_data : manifest (codes "{\"version\":1,\"files\":[{\"name\":\"__a\",\"physical_name\":\"f\",\"length\":1},{\"name\":\"__a\",\"physical_name\":\"g\",\"length\":1}],\"segments\":[]}")
    ≡ Err (Double (codes "g"))
unfolding checked placed shaped file_facts segment_facts file_limits is_utf8 chars serde_json_on_literals
double_data = refl

pub other_names : manifest (codes "{\"version\":1,\"files\":[{\"name\":\"__a\",\"physical_name\":\"f\",\"length\":1},{\"name\":\"__b\",\"physical_name\":\"__a\",\"length\":1}],\"segments\":[]}")
    ≡ facts (file (codes "__a") (codes "f") 1 1 ∷ file (codes "__b") (codes "__a") 1 1 ∷ []) []
unfolding checked placed shaped file_facts segment_facts file_limits is_utf8 chars serde_json_on_literals
other_names = refl

pub double_segment : manifest (codes "{\"version\":1,\"files\":[{\"name\":\"__a\",\"physical_name\":\"f\",\"length\":1}],\"segments\":[{\"name\":\"s\",\"docs\":1,\"postings\":\"f\"},{\"name\":\"s\",\"docs\":1,\"postings\":\"g\"}]}")
    ≡ Err (Double (codes "s"))
unfolding checked placed shaped file_facts segment_facts file_limits is_utf8 chars serde_json_on_literals
double_segment = refl

pub no_file : manifest (codes "{\"version\":1,\"files\":[{\"name\":\"__a\",\"physical_name\":\"f\",\"length\":1}],\"segments\":[{\"name\":\"s\",\"docs\":1,\"postings\":\"g\"}]}")
    ≡ Err (NoFile (codes "g"))
unfolding checked placed shaped file_facts segment_facts file_limits is_utf8 chars serde_json_on_literals
no_file = refl

pub no_live_file : manifest (codes "{\"version\":1,\"files\":[{\"name\":\"__a\",\"physical_name\":\"f\",\"length\":1}],\"segments\":[{\"name\":\"s\",\"docs\":1,\"postings\":\"f\",\"stored\":null,\"live\":\"h\"}]}")
    ≡ Err (NoFile (codes "h"))
unfolding checked placed shaped file_facts segment_facts file_limits is_utf8 chars serde_json_on_literals
no_live_file = refl

pub top_is_array : manifest (codes "[]")
    ≡ Err (Shape field.Manifest)
unfolding checked placed shaped file_facts segment_facts file_limits is_utf8 chars serde_json_on_literals
top_is_array = refl

pub no_version : manifest (codes "{}")
    ≡ Err (Shape field.Version)
unfolding checked placed shaped file_facts segment_facts file_limits is_utf8 chars serde_json_on_literals
no_version = refl

pub version_two : manifest (codes "{\"version\":2,\"files\":[{\"name\":\"__a\",\"physical_name\":\"f\",\"length\":1}],\"segments\":[]}")
    ≡ Err (Shape field.Version)
unfolding checked placed shaped file_facts segment_facts file_limits is_utf8 chars serde_json_on_literals
version_two = refl

pub version_with_fraction : manifest (codes "{\"version\":1.0,\"files\":[{\"name\":\"__a\",\"physical_name\":\"f\",\"length\":1}],\"segments\":[]}")
    ≡ Err (Shape field.Version)
unfolding checked placed shaped file_facts segment_facts file_limits is_utf8 chars serde_json_on_literals
version_with_fraction = refl

pub file_is_number : manifest (codes "{\"version\":1,\"files\":[{},1]}")
    ≡ Err (Shape field.Files)
unfolding checked placed shaped file_facts segment_facts file_limits is_utf8 chars serde_json_on_literals
file_is_number = refl

pub no_segments : manifest (codes "{\"version\":1,\"files\":[]}")
    ≡ Err (Shape field.Segments)
unfolding checked placed shaped file_facts segment_facts file_limits is_utf8 chars serde_json_on_literals
no_segments = refl

pub part_name_ending : manifest (codes "{\"version\":1,\"files\":[{\"name\":\"__a.part3\",\"physical_name\":\"f\",\"length\":1}],\"segments\":[]}")
    ≡ Err (Shape field.Name)
unfolding checked placed shaped file_facts segment_facts file_limits is_utf8 chars serde_json_on_literals
part_name_ending = refl

pub part_name_no_digit : manifest (codes "{\"version\":1,\"files\":[{\"name\":\"__a.part\",\"physical_name\":\"f\",\"length\":1}],\"segments\":[]}")
    ≡ facts (file (codes "__a.part") (codes "f") 1 1 ∷ []) []
unfolding checked placed shaped file_facts segment_facts file_limits is_utf8 chars serde_json_on_literals
part_name_no_digit = refl

pub short_name : manifest (codes "{\"version\":1,\"files\":[{\"name\":\"__\",\"physical_name\":\"f\",\"length\":1}],\"segments\":[]}")
    ≡ Err (Shape field.Name)
unfolding checked placed shaped file_facts segment_facts file_limits is_utf8 chars serde_json_on_literals
short_name = refl

pub one_underscore : manifest (codes "{\"version\":1,\"files\":[{\"name\":\"_ab\",\"physical_name\":\"f\",\"length\":1}],\"segments\":[]}")
    ≡ Err (Shape field.Name)
unfolding checked placed shaped file_facts segment_facts file_limits is_utf8 chars serde_json_on_literals
one_underscore = refl

pub part_size_null : manifest (codes "{\"version\":1,\"files\":[{\"name\":\"__a\",\"physical_name\":\"f\",\"length\":0,\"part_size\":null}],\"segments\":[]}")
    ≡ facts (file (codes "__a") (codes "f") 0 1 ∷ []) []
unfolding checked placed shaped file_facts segment_facts file_limits is_utf8 chars serde_json_on_literals
part_size_null = refl

pub part_size_zero : manifest (codes "{\"version\":1,\"files\":[{\"name\":\"__a\",\"physical_name\":\"f\",\"length\":1,\"part_size\":0}],\"segments\":[]}")
    ≡ Err (Limit field.PartSize 0)
unfolding checked placed shaped file_facts segment_facts file_limits is_utf8 chars serde_json_on_literals
part_size_zero = refl

pub part_size_text : manifest (codes "{\"version\":1,\"files\":[{\"name\":\"__a\",\"physical_name\":\"f\",\"length\":1,\"part_size\":\"1\"}],\"segments\":[]}")
    ≡ Err (Shape field.PartSize)
unfolding checked placed shaped file_facts segment_facts file_limits is_utf8 chars serde_json_on_literals
part_size_text = refl

pub twice : manifest (codes "{\"version\":2,\"files\":[],\"segments\":[],\"version\":1}")
    ≡ facts [] []
unfolding checked placed shaped file_facts segment_facts file_limits is_utf8 chars serde_json_on_literals
twice = refl

pub many_docs : manifest (codes "{\"version\":1,\"files\":[{\"name\":\"__a\",\"physical_name\":\"f\",\"length\":1}],\"segments\":[{\"name\":\"s\",\"docs\":16777217,\"postings\":\"g\"}]}")
    ≡ Err (Limit field.Docs 16777217)
unfolding checked placed shaped file_facts segment_facts file_limits is_utf8 chars serde_json_on_literals
many_docs = refl

pub many_parts : manifest (codes "{\"version\":1,\"files\":[{\"name\":\"__a\",\"physical_name\":\"f\",\"length\":1048576,\"part_size\":1},{\"name\":\"__b\",\"physical_name\":\"g\",\"length\":0}],\"segments\":[]}")
    ≡ Err (Limit field.Parts 1048577)
unfolding checked placed shaped file_facts segment_facts file_limits is_utf8 chars serde_json_on_literals
many_parts = refl

pub limit_before_double : manifest (codes "{\"version\":1,\"files\":[{\"name\":\"__a\",\"physical_name\":\"f\",\"length\":1},{\"name\":\"__a\",\"physical_name\":\"f\",\"length\":1}],\"segments\":[{\"name\":\"s\",\"docs\":16777217,\"postings\":\"f\"}]}")
    ≡ Err (Limit field.Docs 16777217)
unfolding checked placed shaped file_facts segment_facts file_limits is_utf8 chars serde_json_on_literals
limit_before_double = refl

pub shape_before_limit : manifest (codes "{\"version\":1,\"files\":[{\"name\":\"__a\",\"physical_name\":\"f\",\"length\":1,\"part_size\":0}],\"segments\":[{\"name\":\"s\",\"docs\":1}]}")
    ≡ Err (Shape field.Postings)
unfolding checked placed shaped file_facts segment_facts file_limits is_utf8 chars serde_json_on_literals
shape_before_limit = refl
