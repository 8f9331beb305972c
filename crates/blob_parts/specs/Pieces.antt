-- Pieces of files: what clauses see of one, and when it is one of the archive.
use Rattle.std.specs.Prelude.{ℕ, ◌≡◌, List, length}
use Rattle.cache_outside.specs.Listing.{Listing}
use Rattle.blob_parts.specs.Content.{content, slice_of}

-- some bytes, with the manifest, the file and the place that they are from
pub record PieceView : Type 0 where
  pub manifest : ℕ
  pub file : ℕ
  pub at : ℕ
  pub bytes : List ℕ

-- its bytes are those of its file at its place
abbrev pub IsPiece : Listing → PieceView → Type 0
IsPiece blobs p = p.bytes ≡ slice_of (content blobs p.manifest p.file) p.at (length p.bytes)

-- a piece of just this file, place and length
pub record IsPieceAt (m f start len : ℕ) (p : PieceView) : Type 0 where
  pub manifest : p.manifest ≡ m
  pub file : p.file ≡ f
  pub at : p.at ≡ start
  pub size : length p.bytes ≡ len
