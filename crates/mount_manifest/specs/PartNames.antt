-- No two parts of files with names of data have one name.
use Rattle.std.proofs.Common.{◌≡◌, ◌⊎◌, ℕ, zero, suc, ◌+◌, ◌<◌, ◌≤◌, ◌^◌, List, [], ◌∷◌, ◌++◌, length, Bool, true, false, refl, ap, sym, subst, ◌∙◌, arith, ◌%◌, inl, inr}
use Rattle.std.specs.Prelude.{codes, nat_lt, not, ◌==◌, slice_get, sum_by, get_or, drop, Some}
use Rattle.std.specs.Char.{is_ascii_digit}
use Rattle.std.specs.Fmt.{decimal}
use Rattle.std.specs.List.{list_all, list_any}
use Rattle.std.proofs.lemmas.Bool.{and_parts, and_from, false≢true, cases_Bool, or_right}
use Rattle.std.proofs.lemmas.Bool.Decides.{nat_tests}
use Rattle.std.proofs.lemmas.Fmt.{decimal_by_steps, decimal_injective, decimal_nonempty}
use Rattle.std.proofs.lemmas.List.{append_cancel_left}
use Rattle.std.proofs.lemmas.List.Folds.{list_all-append}
use Rattle.std.proofs.lemmas.List.Sums.{sum_by-cons}
use Rattle.std.proofs.lemmas.Nat.{mod_below}
use Rattle.mount_manifest.specs.Parts.{parts_of, part_name}
use Rattle.mount_manifest.specs.Manifest.{Facts, is_file_name, is_part_end, ends_with}
use Rattle.mount_manifest.specs.Sound.{IsSound}
use Rattle.mount_manifest.specs.declared.record.FileRecord.{FileRecord}

-- ---- the end of a part's name

abbrev ending : ℕ → List ℕ
ending k = codes ".part" ++ decimal k

one_digit : (d : ℕ) → d < 10 → is_ascii_digit (48 + d) ≡ true
one_digit d h = grind (arith, nat_tests)

digits_behind : (xs ys : List ℕ) → list_all is_ascii_digit xs ≡ true → list_all is_ascii_digit ys ≡ true → list_all is_ascii_digit (xs ++ ys) ≡ true
digits_behind xs ys p q = list_all-append is_ascii_digit xs ys ∙ and_from _ _ p q

all_digits : (n : ℕ) → n < 2 ^ 64 → list_all is_ascii_digit (decimal n) ≡ true
all_digits n h = decimal_by_steps (λ m ds. list_all is_ascii_digit ds ≡ true) (λ m small. and_from _ _ (one_digit m small) refl)
    (λ m ds big before. digits_behind ds _ before (and_from _ _ (one_digit (m % 10) (mod_below m 10 (omega arith))) refl)) n h

is_an_ending : (k : ℕ) → k < 2 ^ 64 → is_part_end (ending k) ≡ true
is_an_ending k h =
    let some = decimal_nonempty k h in
    let long : nat_lt 5 (length (ending k)) ≡ true = grind (arith, nat_tests) in
    and_from _ _ refl (and_from _ _ long (all_digits k h))

ends_behind : (passes : List ℕ → Bool) (xs : List ℕ) (b : ℕ) (bs : List ℕ) → passes (b ∷ bs) ≡ true → ends_with passes (xs ++ b ∷ bs) ≡ true
ends_behind passes [] b bs h = rw h refl
ends_behind passes (x ∷ xs) b bs h = or_right (passes (x ∷ xs ++ b ∷ bs)) _ (ends_behind passes xs b bs h)

-- a name of data does not end so
not_ending : (name front : List ℕ) (k : ℕ) → is_file_name name ≡ true → k < 2 ^ 64 → name ≡ front ++ ending k → ⊥
not_ending name front k own small is =
    let ends : ends_with is_part_end name ≡ true = subst (λ n. ends_with is_part_end n ≡ true) (sym is) (ends_behind is_part_end front 46 (codes "part" ++ decimal k) (is_an_ending k small)) in
    let parts = and_parts _ (not (ends_with is_part_end name)) own in
    false≢true (subst (λ b. not b ≡ true) ends parts.1)

-- ---- where a name ends

is_dot : ℕ → Bool
is_dot b = b == 46

abbrev has_dot : List ℕ → Bool
has_dot bs = list_any is_dot bs

no_dot : (b : ℕ) → is_ascii_digit b ≡ true → is_dot b ≡ false
unfolding is_dot
no_dot b h = grind (arith, nat_tests)

none_in : (bs : List ℕ) → list_all is_ascii_digit bs ≡ true → has_dot bs ≡ false
none_in [] h = refl
none_in (b ∷ bs) h = let parts = and_parts (is_ascii_digit b) (list_all is_ascii_digit bs) h in rw (no_dot b parts.0) (none_in bs parts.1)

dot_behind : (xs bs : List ℕ) → has_dot (xs ++ 46 ∷ bs) ≡ true
unfolding is_dot
dot_behind [] bs = refl
dot_behind (x ∷ xs) bs = or_right (is_dot x) _ (dot_behind xs bs)

one_dot : (ds : List ℕ) → has_dot ds ≡ false → has_dot (codes "part" ++ ds) ≡ false
unfolding is_dot
one_dot ds h = h

-- names with such ends are the same only where both their fronts and their numbers are
same_ends : (xs ys : List ℕ) (j k : ℕ) → j < 2 ^ 64 → k < 2 ^ 64 → xs ++ ending j ≡ ys ++ ending k → (xs ≡ ys) × (j ≡ k)
same_ends [] [] j k p q h = (refl, decimal_injective j k p q (append_cancel_left (codes ".part") (decimal j) (decimal k) h))
same_ends [] (y ∷ ys) j k p q h = absurd (later ys j k p (ap (drop 1) h))
  where
    later : (zs : List ℕ) (m n : ℕ) → m < 2 ^ 64 → codes "part" ++ decimal m ≡ zs ++ ending n → ⊥
    later zs m n below e = false≢true (sym (one_dot (decimal m) (none_in (decimal m) (all_digits m below))) ∙ ap has_dot e ∙ dot_behind zs (codes "part" ++ decimal n))
same_ends (x ∷ xs) [] j k p q h = absurd (later xs j k q (ap (drop 1) h))
  where
    later : (zs : List ℕ) (m n : ℕ) → n < 2 ^ 64 → zs ++ ending m ≡ codes "part" ++ decimal n → ⊥
    later zs m n below e = false≢true (sym (one_dot (decimal n) (none_in (decimal n) (all_digits n below))) ∙ sym (ap has_dot e) ∙ dot_behind zs (codes "part" ++ decimal m))
same_ends (x ∷ xs) (y ∷ ys) j k p q h =
    let rest = same_ends xs ys j k p q (ap (drop 1) h) in
    (both (ap (λ bs. get_or bs 0 0) h) rest.0, rest.1)
  where
    both : {a b : ℕ} {cs ds : List ℕ} → a ≡ b → cs ≡ ds → a ∷ cs ≡ b ∷ ds
    both e f = cc

-- ---- the law

own_name : (f : FileRecord) (k : ℕ) → (parts_of f == 1) ≡ true → part_name f k ≡ f.name
own_name f k e = rw e refl

long_name : (f : FileRecord) (k : ℕ) → (parts_of f == 1) ≡ false → part_name f k ≡ f.name ++ ending k
long_name f k e = rw e refl

few : (files : List FileRecord) (i : ℕ) (f : FileRecord) → slice_get files i ≡ Some f → parts_of f ≤ sum_by parts_of files
few [] i f at = absurd (cc)
few (g ∷ gs) zero f at = let same : g ≡ f = cc in rw (sum_by-cons parts_of g gs) (subst (λ h. parts_of h ≤ parts_of g + sum_by parts_of gs) same (omega arith))
few (g ∷ gs) (suc i) f at = let rest = few gs i f at in rw (sum_by-cons parts_of g gs) (omega (arith, rest))

only_one : (n j : ℕ) → (n == 1) ≡ true → j < n → j ≡ 0
only_one n j e h = grind (arith, nat_tests)

-- In a sound manifest no two parts have one name.
pub part_names_differ : (m : Facts) (i l : ℕ) (f g : FileRecord) (j k : ℕ) → IsSound m → slice_get m.files i ≡ Some f → slice_get m.files l ≡ Some g → j < parts_of f → k < parts_of g
    → part_name f j ≡ part_name g k → (i ≡ l) × (j ≡ k)
part_names_differ m i l f g j k sound at to inside within h = by_cases (cases_Bool (parts_of f == 1)) (cases_Bool (parts_of g == 1))
  where
    first : j < 2 ^ 64
    first = let most = few m.files i f at in omega (arith, inside, most, sound.few_parts)

    second : k < 2 ^ 64
    second = let most = few m.files l g to in omega (arith, within, most, sound.few_parts)

    files : f.name ≡ g.name → i ≡ l
    files e = sound.names i l f g at to e

    by_cases : ((parts_of f == 1) ≡ true) ⊎ ((parts_of f == 1) ≡ false) → ((parts_of g == 1) ≡ true) ⊎ ((parts_of g == 1) ≡ false) → (i ≡ l) × (j ≡ k)
    by_cases (inl a) (inl b) =
        (files (sym (own_name f j a) ∙ h ∙ own_name g k b), only_one (parts_of f) j a inside ∙ sym (only_one (parts_of g) k b within))
    by_cases (inl a) (inr b) = absurd (not_ending f.name g.name k (sound.file i f at).named second (sym (own_name f j a) ∙ h ∙ long_name g k b))
    by_cases (inr a) (inl b) = absurd (not_ending g.name f.name j (sound.file l g to).named first (sym (own_name g k b) ∙ sym h ∙ long_name f j a))
    by_cases (inr a) (inr b) =
        let same = same_ends f.name g.name j k first second (sym (long_name f j a) ∙ h ∙ long_name g k b) in
        (files same.0, same.1)
