-- The word that a refusal prints for a field: the name of its member.
use Rattle.std.specs.Prelude.{ℕ, List, codes}
use Rattle.mount_manifest.specs.declared.error.Field.{Field}
use Rattle.mount_manifest.specs.declared.error.Field.TheVariants.{Manifest, Bytes, Version, Files, Name, PhysicalName, Length, PartSize, Parts, Segments, Docs, Postings, Stored, Live}

abbrev pub word : Field → List ℕ
word Manifest = codes "manifest"
word Bytes = codes "bytes"
word Version = codes "version"
word Files = codes "files"
word Name = codes "name"
word PhysicalName = codes "physical_name"
word Length = codes "length"
word PartSize = codes "part_size"
word Parts = codes "parts"
word Segments = codes "segments"
word Docs = codes "docs"
word Postings = codes "postings"
word Stored = codes "stored"
word Live = codes "live"
