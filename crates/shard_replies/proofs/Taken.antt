-- All that was asked is taken, whatever is answered.
use Rattle.std.proofs.Common.{ℕ, sym, subst, List, length, take}
use Rattle.std.proofs.Math.Seq.{take-length}
use Rattle.std.specs.Prelude.{Option, Result, Ok, Err}
use Rattle.blob_parts.specs.Takes.{Took, Takes}

pub some_taken : (before after : Option (List (ℕ × ℕ × ℕ))) (places : List (ℕ × ℕ)) → Took before after places → (n : ℕ) × Took before after (take n places)
some_taken before after places h = (length places, subst (Took before after) (sym (take-length places)) h)

pub all_taken : {T E : Type 0} (before after : Option (List (ℕ × ℕ × ℕ))) (places : List (ℕ × ℕ)) (r : Result T E) → Took before after places → Takes before after places r
all_taken before after places (Ok x) h = h
all_taken before after places (Err e) h = some_taken before after places h
