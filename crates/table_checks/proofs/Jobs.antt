-- One more job.
use Rattle.std.proofs.Common.{arith, ◌++◌, ◌∷◌, [], zero, suc, List}
use Rattle.std.specs.Prelude.{All}
use Rattle.std.proofs.lemmas.List.Elements.{All-append}

one : {J : Type 0} (P : J → Type 0) (y : J) → P y → All P (y ∷ [])
one P y p zero d h = p
one P y p (suc k) d h = absurd (omega arith)

pub one_more : {J : Type 0} (P : J → Type 0) (xs : List J) (y : J) → All P xs → P y → All P (xs ++ y ∷ [])
one_more P xs y h p = All-append P xs (y ∷ []) h (one P y p)
