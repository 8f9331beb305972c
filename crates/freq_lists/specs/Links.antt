-- How the lists are kept: each node has its neighbours and its list's number, and each list its ends.
use Rattle.std.specs.Prelude.{◌≡◌, ◌<◌, ◌≤◌, ◌==◌, ℕ, zero, suc, List, [], ◌∷◌, length, map, slice_get, Option, Some, None, option_and_then, if◌then◌else◌}
use Rattle.freq_lists.specs.declared.links.Node.{Node}
use Rattle.freq_lists.specs.declared.links.Ends.{Ends}
use Rattle.freq_lists.specs.Lists.{head, behind, list_at, times, times_in}

-- ---- the lists that the links give

abbrev pub next_of : List Node → ℕ → Option ℕ
next_of ns n = option_and_then (λ (m : Node). m.next) (slice_get ns n)

-- from a node on, node by node, so many at most
abbrev pub walk : ℕ → Option ℕ → List Node → List ℕ
walk zero at ns = []
walk (suc most) None ns = []
walk (suc most) (Some n) ns = n ∷ walk most (next_of ns n) ns

abbrev pub walked : List Node → List Ends → List (List ℕ)
walked ns es = map (λ (e : Ends). walk (length ns) e.first ns) es

-- ---- what is true of the links

-- the node before n, and the last node, of a list that stands behind p
abbrev pub ahead : Option ℕ → ℕ → List ℕ → Option ℕ
ahead p n [] = None
ahead p n (x ∷ xs) = if x == n then p else ahead (Some x) n xs

abbrev pub last_of : Option ℕ → List ℕ → Option ℕ
last_of p [] = p
last_of p (x ∷ xs) = last_of (Some x) xs

pub record IsLinked (ns : List Node) (es : List Ends) (ls : List (List ℕ)) : Type 0 where
  pub count : length ls ≡ length es
  pub few : (length ns < 4294967296) × (length es < 4294967296)
  pub once : (n : ℕ) → times n ls ≤ 1
  pub range : (n : ℕ) → 0 < times n ls → n < length ns
  -- a node of list k has its neighbours there, and a node of no list has nothing
  pub listed : (k n : ℕ) → 0 < times_in n (list_at k ls) → slice_get ns n ≡ Some (record { previous = ahead None n (list_at k ls); next = behind n (list_at k ls); list = Some k })
  pub free : (n : ℕ) → n < length ns → times n ls ≡ 0 → slice_get ns n ≡ Some (record { previous = None; next = None; list = None })
  pub ends : (k : ℕ) → k < length ls → slice_get es k ≡ Some (record { first = head (list_at k ls); last = last_of None (list_at k ls) })

-- ---- changes of links

abbrev pub change : {X : Type 0} → ℕ → (X → X) → List X → List X
change i f [] = []
change zero f (x ∷ xs) = f x ∷ xs
change (suc i) f (x ∷ xs) = x ∷ change i f xs

-- `x` stands behind the node, or at the front of list k where there is no node
abbrev pub with_next : Option ℕ → Option ℕ → List Node → List Node
with_next None x ns = ns
with_next (Some p) x ns = change p (λ (m : Node). record m { next = x }) ns

abbrev pub with_first : Option ℕ → Option ℕ → ℕ → List Ends → List Ends
with_first None x k es = change k (λ (e : Ends). record e { first = x }) es
with_first (Some p) x k es = es

-- `x` stands before the node, or at the back of list k where there is no node
abbrev pub with_previous : Option ℕ → Option ℕ → List Node → List Node
with_previous None x ns = ns
with_previous (Some q) x ns = change q (λ (m : Node). record m { previous = x }) ns

abbrev pub with_last : Option ℕ → Option ℕ → ℕ → List Ends → List Ends
with_last None x k es = change k (λ (e : Ends). record e { last = x }) es
with_last (Some q) x k es = es
