use Rattle.sample_archive.specs.Sample.{sample}
use Rattle.sample_archive.proofs.Counted.{ten_added}
use Rattle.sample_archive.proofs.blobs.sample_blobs.Goals as goal

pub returns : goal.returns
unfolding sample
returns c =
    ten_added _ _ _ _ _ _ _ _ _ _ _ _ _ _ _ _ _ _ _ _ _ _ _ _ _ _ _ _ _ _ _ _ _ _ _ _ _ _ _ _ _
    c.in_ok-of.ensures c.in_ok-of-2.ensures c.in_ok-counting.ensures c.in_ok-of-3.ensures c.in_ok-of-4.ensures c.in_ok-of-5.ensures c.in_ok-of-6.ensures c.in_ok-of-7.ensures c.in_ok-of-8.ensures c.in_ok-of-9.ensures
    c.new-blobs.ensures c.in_ok-add.ensures c.in_ok-add-2.ensures c.in_ok-add-3.ensures c.in_ok-add-4.ensures c.in_ok-add-5.ensures c.in_ok-add-6.ensures c.in_ok-add-7.ensures c.in_ok-add-8.ensures c.in_ok-add-9.ensures c.in_ok-add-10.ensures
