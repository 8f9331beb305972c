-- Reading step by step, where the first refusal decides; and what a function of the code gives by such steps.
use Rattle.std.specs.Prelude.{◌≡◌, ℕ, nat_lt, if◌then◌else◌, Result, Ok, Err, Option, Some, None, List, [], ◌∷◌, ◌++◌, Vec, ⊤}
use Rattle.std.specs.declared.alloc.Global.{Global}
use Rattle.mount_manifest.specs.declared.error.Field.{Field}
use Rattle.mount_manifest.specs.declared.error.ManifestError.{ManifestError}
use Rattle.mount_manifest.specs.declared.error.ManifestError.TheVariants.{Limit, NoMemory}

infixl 10 ◌>>=◌
abbrev pub ◌>>=◌ : {A B : Type 0} → Result A ManifestError → (A → Result B ManifestError) → Result B ManifestError
(Ok x) >>= f = f x
(Err e) >>= f = Err e

-- where a value is missing, this refusal
abbrev pub or_refuse : {A : Type 0} → ManifestError → Option A → Result A ManifestError
or_refuse e None = Err e
or_refuse e (Some x) = Ok x

-- a value above its limit is refused, with the value
abbrev pub at_most : ℕ → Field → ℕ → Result ⊤ ManifestError
at_most limit field value = if nat_lt limit value then Err (Limit field value) else Ok tt

-- the same step for each of a list, in order
abbrev pub each : {A B : Type 0} → (A → Result B ManifestError) → List A → Result (List B) ManifestError
each step [] = Ok []
each step (x ∷ xs) = step x >>= (λ y. each step xs >>= (λ ys. Ok (y ∷ ys)))

-- what was read before, in front of what reading the rest gives
abbrev pub with_front : {A : Type 0} → List A → Result (List A) ManifestError → Result (List A) ManifestError
with_front front rest = rest >>= (λ xs. Ok (front ++ xs))

-- want of memory may come at any time, and every other refusal is the one that reading gives
abbrev pub Refuses : {A : Type 0} → Result A ManifestError → ManifestError → Type 0
Refuses wanted NoMemory = Unit {0}
Refuses wanted e = wanted ≡ Err e

-- a function of the code gives just what reading gives, want of memory aside
abbrev pub Gives : {A : Type 0} → Result A ManifestError → Result A ManifestError → Type 0
Gives (Ok x) wanted = wanted ≡ Ok x
Gives (Err e) wanted = Refuses wanted e

-- the same, where the code's value is seen by a function
abbrev pub GivesBy : {A B : Type 0} → (A → B) → Result A ManifestError → Result B ManifestError → Type 0
GivesBy seen (Ok x) wanted = wanted ≡ Ok (seen x)
GivesBy seen (Err e) wanted = Refuses wanted e

-- the same, where a list is wanted and a vector given
abbrev pub GivesList : {A : Type 0} → Result (Vec A Global) ManifestError → Result (List A) ManifestError → Type 0
GivesList (Ok v) wanted = wanted ≡ Ok v.items
GivesList (Err e) wanted = Refuses wanted e
