-- A dictionary fits its text at every later state of the files.
use Rattle.directory_input.specs.Files.{FilesView, FilesLater}
use Rattle.directory_input.proofs.Later.{file_fits_later}
use Rattle.simpletext_postings.specs.Terms.{FitsText, TermTable}

pub text_fits_later : {x y : FilesView} {t : TermTable} → FilesLater x y → FitsText x t → FitsText y t
text_fits_later later h = record {
  file = file_fits_later later h.file;
  table = rw (later.tells, later.bytes) h.table;
}
