-- The manifest of what is made, as a JSON value: an object's members are in the order of their keys.
use Rattle.std.specs.Prelude.{ℕ, codes}
use Rattle.serde_json.specs.Data.{Data, unsigned, number, string, array, object, no_items, item, no_members, member}

-- the one file, by the length of its text in bytes
abbrev pub file_value : ℕ → Data
file_value size = object
    (member (codes "length") (number (unsigned size)) (member (codes "name") (string (codes "__made"))
    (member (codes "part_size") (number (unsigned 4096)) (member (codes "physical_name") (string (codes "_0.pst")) no_members))))

-- the one segment, by its number of documents
abbrev pub segment_value : ℕ → Data
segment_value docs = object
    (member (codes "docs") (number (unsigned docs)) (member (codes "name") (string (codes "_0"))
    (member (codes "postings") (string (codes "_0.pst")) no_members)))

abbrev pub manifest_value : ℕ → ℕ → Data
manifest_value docs size = object
    (member (codes "files") (array (item (file_value size) no_items)) (member (codes "segments") (array (item (segment_value docs) no_items))
    (member (codes "version") (number (unsigned 1)) no_members)))
