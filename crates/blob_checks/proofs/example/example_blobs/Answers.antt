use Rattle.blob_checks.specs.Example.{example}
use Rattle.blob_checks.proofs.example.example_blobs.Goals as goal

pub returns : goal.returns
unfolding example
returns c = rw (c.in_ok-add-6.ensures, c.in_ok-add-5.ensures, c.in_ok-add-4.ensures, c.in_ok-add-3.ensures, c.in_ok-add-2.ensures, c.in_ok-add.ensures, c.new-blobs.ensures)
