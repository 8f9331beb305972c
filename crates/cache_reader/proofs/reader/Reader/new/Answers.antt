use Rattle.cache_reader.proofs.reader.Reader.new.Goals as goal

pub invariant_of-result : goal.invariant_of-result
invariant_of-result g c = record {
  free = c.requires.free;
  own = c.requires.setting;
  limits = c.requires.limits;
  below = c.requires.below;
  reach = λ x e. absurd (cc);
  fits = tt;
}
