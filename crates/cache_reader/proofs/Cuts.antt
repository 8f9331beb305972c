-- A range of a file, cut from its front on, part by part.
use Rattle.std.proofs.Common.{arith, ◌≡◌, ◌<◌, ◌≤◌, ◌+◌, ◌-◌, ◌*◌, ◌/◌, ℕ, zero, suc, List, [], ◌∷◌, ◌++◌, map, true, false, min, refl, ap, sym, ◌∙◌, inl, inr}
use Rattle.std.specs.Prelude.{◌==◌, max}
use Rattle.std.specs.List.{range_with_len}
use Rattle.std.proofs.lemmas.Bool.{cases_lt}
use Rattle.std.proofs.lemmas.Bool.Decides.{nat_tests}
use Rattle.std.proofs.lemmas.List.{append-nil, append_assoc}
use Rattle.std.proofs.lemmas.Nat.{div_below, le-div}
use Rattle.std.proofs.Math.Nat.{mul-le-mul_right, lt-div-mul-add, div-mul-le_self}
use Rattle.region_ranges.specs.declared.ranges.ByteRange.{ByteRange}
use Rattle.cache_door.specs.Takes.{part, parts}
use Rattle.cache_reader.proofs.Taken.{row_more}

-- the end of the aligned range that `at` lies in
abbrev pub next_cut : ℕ → ℕ → ℕ
next_cut at range = at / range * range + range

-- the part that begins at `at`, of bytes up to `end`
abbrev pub first_part : ℕ → ℕ → ℕ → ByteRange
first_part at end range = record { start = at; end = min end (next_cut at range) }

abbrev pub cut_at : ℕ → ℕ → ByteRange
cut_at at end = record { start = at; end = end }

pub parts_none : (range e : ℕ) → parts range (cut_at e e) ≡ []
parts_none range e = let z : (e - e == 0) ≡ true = grind (arith, nat_tests) in rw z refl

parts_some : (range at end : ℕ) → at < end → parts range (cut_at at end) ≡ map (part range (cut_at at end)) (range_with_len (at / range) ((end - 1) / range + 1 - at / range))
parts_some range at end less = let z : (end - at == 0) ≡ false = grind (arith, nat_tests) in rw z refl

same_from : (f g : ℕ → ByteRange) (lo n : ℕ) → ((j : ℕ) → lo ≤ j → f j ≡ g j) → map f (range_with_len lo n) ≡ map g (range_with_len lo n)
same_from f g lo zero h = refl
same_from f g lo (suc n) h = ap (λ x. x ∷ map f (range_with_len (lo + 1) n)) (h lo (omega arith)) ∙ ap (λ l. g lo ∷ l) (same_from f g (lo + 1) n (λ j le. h j (omega (arith, le))))

same_range : (a b d e : ℕ) → a ≡ d → b ≡ e → cut_at a b ≡ cut_at d e
same_range a b d e p q = ap (λ x. cut_at x b) p ∙ ap (λ x. cut_at d x) q

-- the first of the numbered parts
part_first : (range at end : ℕ) → 0 < range → part range (cut_at at end) (at / range) ≡ first_part at end range
part_first range at end some =
    let low : at / range * range ≤ at = div-mul-le_self at range in
    same_range (max at (at / range * range)) (min end (at / range * range + range)) at (min end (next_cut at range)) (omega (arith, low)) refl

-- those behind it begin at its end
part_behind : (range at end k : ℕ) → 0 < range → next_cut at range < end → at / range + 1 ≤ k → part range (cut_at at end) k ≡ part range (cut_at (next_cut at range) end) k
part_behind range at end k some less le =
    let m : (at / range + 1) * range ≤ k * range = mul-le-mul_right range le in
    let r = row_more (at / range) range in
    let high : at < at / range * range + range = lt-div-mul-add {a = at} some in
    same_range (max at (k * range)) (min end (k * range + range)) (max (next_cut at range) (k * range)) (min end (k * range + range)) (omega (arith, m, r, high)) refl

-- where the range ends with the first part
one_part : (range at end : ℕ) → 0 < range → at < end → end ≤ next_cut at range → parts range (cut_at at end) ≡ first_part at end range ∷ []
one_part range at end some less short =
    let r = row_more (at / range) range in
    let low : at / range * range ≤ at = div-mul-le_self at range in
    let above : at / range ≤ (end - 1) / range = le-div (at / range) (end - 1) range some (omega (arith, low, less)) in
    let below : (end - 1) / range < at / range + 1 = div_below (end - 1) range (at / range + 1) some (omega (arith, r, short, less)) in
    let count : (end - 1) / range + 1 - at / range ≡ 1 = omega (arith, above, below) in
    parts_some range at end less
    ∙ ap (λ n. map (part range (cut_at at end)) (range_with_len (at / range) n)) count
    ∙ ap (λ p. p ∷ []) (part_first range at end some)

-- where it does not
more_parts : (range at end : ℕ) → 0 < range → at < end → next_cut at range < end → parts range (cut_at at end) ≡ first_part at end range ∷ parts range (cut_at (next_cut at range) end)
more_parts range at end some less long =
    let k = at / range in
    let next = next_cut at range in
    let r = row_more k range in
    let q : next / range ≡ k + 1 =
    (let up : k + 1 ≤ next / range = le-div (k + 1) next range some (omega (arith, r)) in
    let rr = row_more (k + 1) range in
    let down : next / range < k + 1 + 1 = div_below next range (k + 1 + 1) some (omega (arith, r, rr, some)) in
    omega (arith, up, down)) in
    let above : k + 1 ≤ (end - 1) / range = le-div (k + 1) (end - 1) range some (omega (arith, r, long)) in
    let count : (end - 1) / range + 1 - k ≡ suc ((end - 1) / range + 1 - (k + 1)) = omega (arith, above) in
    let f = part range (cut_at at end) in
    let g = part range (cut_at next end) in
    parts_some range at end less
    ∙ ap (λ n. map f (range_with_len k n)) count
    ∙ ap (λ p. p ∷ map f (range_with_len (k + 1) ((end - 1) / range + 1 - (k + 1)))) (part_first range at end some)
    ∙ ap (λ l. first_part at end range ∷ l) (
    same_from f g (k + 1) ((end - 1) / range + 1 - (k + 1)) (λ j le. part_behind range at end j some long le)
    ∙ ap (λ n. map g (range_with_len n ((end - 1) / range + 1 - n))) (sym q)
    ∙ sym (parts_some range next end long))

-- the first part, and the parts of what is behind it
pub parts_cut : (range at end : ℕ) → 0 < range → at < end → parts range (cut_at at end) ≡ first_part at end range ∷ parts range (cut_at (min end (next_cut at range)) end)
parts_cut range at end some less = elim (cases_lt (next_cut at range) end) [
  | inl long ↦
      let e : min end (next_cut at range) ≡ next_cut at range = omega (arith, long) in
      more_parts range at end some less long ∙ ap (λ n. first_part at end range ∷ parts range (cut_at n end)) (sym e)
  | inr short ↦
      let e : min end (next_cut at range) ≡ end = omega (arith, short) in
      one_part range at end some less short ∙ ap (λ l. first_part at end range ∷ l) (sym (ap (λ n. parts range (cut_at n end)) e ∙ parts_none range end))
]

-- the loop's step: parts, the next one, and those of what is left
pub parts_step : (range at end : ℕ) (whole done : List ByteRange) (p : ByteRange) → 0 < range → at < end → p.start ≡ at → p.end ≡ min end (next_cut at range)
    → done ++ parts range (cut_at at end) ≡ whole → (done ++ p ∷ []) ++ parts range (cut_at p.end end) ≡ whole
parts_step range at end whole done p some less starts ends h =
    let same : p ≡ first_part at end range = same_range p.start p.end at (min end (next_cut at range)) starts ends in
    append_assoc done (p ∷ []) (parts range (cut_at p.end end))
    ∙ ap (λ x. done ++ (x ∷ parts range (cut_at p.end end))) same
    ∙ ap (λ n. done ++ (first_part at end range ∷ parts range (cut_at n end))) ends
    ∙ ap (λ l. done ++ l) (sym (parts_cut range at end some less))
    ∙ h

-- at its end nothing is left
pub parts_done : (range at end : ℕ) (whole done : List ByteRange) → at ≡ end → done ++ parts range (cut_at at end) ≡ whole → done ≡ whole
parts_done range at end whole done e h =
    sym (append-nil done) ∙ ap (λ l. done ++ l) (sym (ap (λ n. parts range (cut_at n end)) e ∙ parts_none range end)) ∙ h
