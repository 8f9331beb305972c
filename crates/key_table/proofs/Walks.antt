-- The walk from a key's first place, place by place.
use Rattle.std.proofs.Common.{arith, ◌≡◌, ◌≢◌, ◌<◌, ◌≤◌, ◌+◌, ℕ, List, sym, ◌∙◌, inl, inr, length, Option, Some, None}
use Rattle.std.proofs.lemmas.Bool.{cases_lt, cases_eq}
use Rattle.key_table.specs.declared.places.Entry.{Entry}
use Rattle.key_table.specs.Slots.{steps, after, entry_at, keys_in}
use Rattle.key_table.proofs.Rounds.{steps_less, steps_same, steps_after, steps_round}
use Rattle.key_table.proofs.Entries.{free_place}

-- the places before the n-th, from the first on, have entries of other keys
abbrev pub ArePassed : ℕ → ℕ → List (Option Entry) → ℕ → Type 0
ArePassed key first slots n = (m : ℕ) → m < length slots → steps (length slots) first m < n → (e : Entry) × (entry_at slots m ≡ Some e) × (e.key ≢ key)

-- the n-th place from the first on, or all were passed
abbrev pub IsNth : ℕ → ℕ → ℕ → ℕ → Type 0
IsNth size first place n = n < size → steps size first place ≡ n

module _ (key first : ℕ) (slots : List (Option Entry)) (first_in : first < length slots) where
  pub passed_none : ArePassed key first slots 0
  passed_none m h some = absurd (omega (arith, some))

  pub passed_more : (place n : ℕ) (e : Entry) → place < length slots → n < length slots → ArePassed key first slots n → IsNth (length slots) first place n → entry_at slots place ≡ Some e → e.key ≢ key → ArePassed key first slots (n + 1)
  passed_more place n e place_in within passed nth at other m h less = elim (cases_lt (steps (length slots) first m) n) [
    | inl before ↦ passed m h before
    | inr here ↦
        let is = steps_same (length slots) first m place first_in h place_in (omega (arith, here, less, nth within)) in
        rw is (e, at, other)
  ]

  pub nth_more : (place n : ℕ) → place < length slots → n < length slots → IsNth (length slots) first place n → IsNth (length slots) first (after (length slots) place) (n + 1)
  nth_more place n place_in within nth more = elim (cases_eq (after (length slots) place) first) [
    | inl round ↦ absurd (omega (arith, steps_round (length slots) first place first_in place_in round, nth within, more))
    | inr on ↦ omega (arith, steps_after (length slots) first place first_in place_in on, nth within)
  ]

  pub not_all : (n : ℕ) → length slots ≤ n → ArePassed key first slots n → keys_in slots < length slots → ⊥
  not_all n all passed room =
      let f = free_place slots room in
      let e = passed f.0 f.1 (omega (arith, all, steps_less (length slots) first f.0 first_in f.1)) in
      let bad : None ≡ Some e.0 = sym f.2 ∙ e.1 in
      cc
