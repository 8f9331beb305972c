use Rattle.std.proofs.Common.{◌≡◌, length, drop}
use Rattle.std.specs.Prelude.{◌||◌}
use Rattle.doc_bits.specs.Places.{zip_with}
use Rattle.shard_search.specs.Sets.{each_of, has_posting}
use Rattle.shard_search.proofs.terms.docs_of.Given as goal

abbrev pub invariant-loop-posting : goal.invariant-loop-posting
invariant-loop-posting l = record {
  size : length l.bits ≡ l.docs;
  made : zip_with ◌||◌ l.bits (each_of (has_posting (drop l.posting-index l.postings)) l.docs) ≡ each_of (has_posting l.postings) l.docs;
}
