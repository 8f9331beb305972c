-- Bit planes: what one plane more adds to the counts, and how it compares them.
use Rattle.std.proofs.Common.{◌≡◌, ℕ, zero, suc, ◌+◌, ◌*◌, ◌/◌, ◌%◌, ◌^◌, ◌<◌, ◌≤◌, Bool, false, cond, eqb, nat_le, ◌&&◌, ◌||◌, List, [], length, get_or, set, map, replicate, sym, refl, ap, ◌∙◌, arith, bit_and, All}
use Rattle.std.proofs.Math.Nat.{mod-eq_of_lt}
use Rattle.std.proofs.lemmas.List.{length-map, get_or-map, map-set, ext_get_or, get_or-replicate, length-replicate}
use Rattle.std.proofs.lemmas.List.Elements.{All-replicate}
use Rattle.std.proofs.lemmas.List.FromFn.{length-map-range_with_len, get_or-map-range_with_len}
use Rattle.doc_bits.specs.Counts.{counted}
use Rattle.doc_bits.specs.Places.{zip_with, and_not, either_not_both}
use Rattle.doc_bits.specs.Planes.{number, digits_at, counts_of, AreLaidOut}
use Rattle.doc_bits.proofs.Lists.{length-zip_with, get_or-zip_with, replicate_of_range}
use Rattle.doc_bits.proofs.CountLemmas.{counts_le}
use Rattle.doc_bits.proofs.NumberLemmas.{number-set, digit_added, digit_compared}

length-digits_at : (planes : List (List Bool)) (i : ℕ) → length (digits_at planes i) ≡ length planes
length-digits_at planes i = length-map planes (λ plane. get_or plane i false)

get_or-digits_at : (planes : List (List Bool)) (i p : ℕ) → p < length planes → get_or (digits_at planes i) p false ≡ get_or (get_or planes p []) i false
get_or-digits_at planes i p low = get_or-map (λ plane. get_or plane i false) planes p [] false low

digits_at-set : (planes : List (List Bool)) (p : ℕ) (plane : List Bool) (i : ℕ)
    → digits_at (set planes p plane) i ≡ set (digits_at planes i) p (get_or plane i false)
digits_at-set planes p plane i = map-set (λ ps. get_or ps i false) planes p plane

-- ---- one plane
pub plane_added : (planes : List (List Bool)) (p : ℕ) (carry plane rest : List Bool) (i : ℕ) → p < length planes → i < length carry
    → length (get_or planes p []) ≡ length carry → plane ≡ zip_with either_not_both (get_or planes p []) carry → rest ≡ zip_with and_not carry plane
    → number (digits_at (set planes p plane) i) + 2 ^ (p + 1) * cond (get_or rest i false) 1 0 ≡ number (digits_at planes i) + 2 ^ p * cond (get_or carry i false) 1 0
plane_added planes p carry plane rest i low within long sums carried =
    let old : List Bool = get_or planes p [] in
    let digits : List Bool = digits_at planes i in
    let d : Bool = get_or old i false in
    let c : Bool = get_or carry i false in
    let e : Bool = get_or plane i false in
    let many = length-digits_at planes i in
    let plane_long = ap length sums ∙ length-zip_with either_not_both old carry long in
    let sum : e ≡ either_not_both d c = ap (λ xs. get_or xs i false) sums ∙ get_or-zip_with either_not_both old carry i false false false (omega arith) within in
    let next : get_or rest i false ≡ and_not c e = ap (λ xs. get_or xs i false) carried ∙ get_or-zip_with and_not carry plane i false false false within (omega arith) in
    ap (λ ds. number ds + 2 ^ (p + 1) * cond (get_or rest i false) 1 0) (digits_at-set planes p plane i)
    ∙ digit_added p (number digits) (number (set digits p e)) d c e (get_or rest i false) sum next
    (number-set digits p d e (omega arith) (get_or-digits_at planes i p low))

pub plane_compared : (planes : List (List Bool)) (p m : ℕ) (out next : List Bool) (i : ℕ) → p < length planes → i < length out
    → length (get_or planes p []) ≡ length out → next ≡ zip_with (cond (eqb (bit_and (m / 2 ^ p) 1) 1) ◌&&◌ ◌||◌) out (get_or planes p [])
    → get_or out i false ≡ nat_le (m % 2 ^ p) (number (digits_at planes i) % 2 ^ p)
    → get_or next i false ≡ nat_le (m % 2 ^ (p + 1)) (number (digits_at planes i) % 2 ^ (p + 1))
plane_compared planes p m out next i low within long made so_far =
    let plane : List Bool = get_or planes p [] in
    let test : Bool → Bool → Bool = cond (eqb (bit_and (m / 2 ^ p) 1) 1) ◌&&◌ ◌||◌ in
    ap (λ xs. get_or xs i false) made ∙ get_or-zip_with test out plane i false false false within (omega arith)
    ∙ ap (λ v. test v (get_or plane i false)) so_far
    ∙ sym (digit_compared m p (digits_at planes i) (get_or plane i false) (get_or-digits_at planes i p low))

-- all digits are compared
pub compared_all : (m n used : ℕ) (v : Bool) → m < 2 ^ used → n < 2 ^ used → v ≡ nat_le (m % 2 ^ used) (n % 2 ^ used) → v ≡ nat_le m n
compared_all m n used v low small same = same ∙ ap (λ k. nat_le k (n % 2 ^ used)) (mod-eq_of_lt low) ∙ ap (nat_le m) (mod-eq_of_lt small)

-- ---- the counts of all places
pub length-counts_of : (len : ℕ) (planes : List (List Bool)) → length (counts_of len planes) ≡ len
unfolding counts_of
length-counts_of len planes = length-map-range_with_len (λ i. number (digits_at planes i)) 0 len

pub get_or-counts_of : (len : ℕ) (planes : List (List Bool)) (i : ℕ) → i < len → get_or (counts_of len planes) i 0 ≡ number (digits_at planes i)
unfolding counts_of
get_or-counts_of len planes i low = get_or-map-range_with_len (λ j. number (digits_at planes j)) 0 len i i 0 low (omega arith)

pub counts_added : (len : ℕ) (old new : List (List Bool)) (bits : List Bool) → length bits ≡ len
    → ((i : ℕ) → i < len → number (digits_at new i) ≡ counted (number (digits_at old i)) (get_or bits i false))
    → counts_of len new ≡ zip_with counted (counts_of len old) bits
counts_added len old new bits long each =
    let old_long = length-counts_of len old in
    let new_long = length-counts_of len new in
    let zipped = length-zip_with counted (counts_of len old) bits (old_long ∙ sym long) in
    ext_get_or 0 _ _ (omega arith) (λ i low.
    get_or-counts_of len new i (omega arith) ∙ each i (omega arith)
    ∙ ap (λ n. counted n (get_or bits i false)) (sym (get_or-counts_of len old i (omega arith)))
    ∙ sym (get_or-zip_with counted (counts_of len old) bits i 0 false 0 (omega arith) (omega arith)))

pub counts_compared : (m len : ℕ) (planes : List (List Bool)) (out : List Bool) → length out ≡ len
    → ((i : ℕ) → i < len → get_or out i false ≡ nat_le m (number (digits_at planes i)))
    → out ≡ map (λ count. nat_le m count) (counts_of len planes)
counts_compared m len planes out long each =
    let counts_long = length-counts_of len planes in
    let mapped = length-map (counts_of len planes) (λ count. nat_le m count) in
    ext_get_or false _ _ (omega arith) (λ i low.
    each i (omega arith) ∙ ap (nat_le m) (sym (get_or-counts_of len planes i (omega arith)))
    ∙ sym (get_or-map (λ count. nat_le m count) (counts_of len planes) i 0 false (omega arith)))

-- ---- what a tally's own calls ask and keep
pub all_long : (planes same : List (List Bool)) (len other : ℕ) → same ≡ planes → other ≡ len → All (λ (plane : List Bool). length plane ≡ len) planes
    → All (λ (plane : List Bool). length plane ≡ other) same
all_long planes same len other is long each = rw (is, long) each

pub count_le : (added len : ℕ) (planes : List (List Bool)) (i : ℕ) → AreLaidOut added len planes → i < len → number (digits_at planes i) ≤ added
count_le added len planes i laid low =
    let at = get_or-counts_of len planes i low in
    let few = laid.counted.within i in
    omega arith

pub each_added : (old new lent : List (List Bool)) (bits copied : List Bool) (len : ℕ) → lent ≡ old → copied ≡ bits → length bits ≡ len
    → ((i : ℕ) → i < length copied → number (digits_at new i) ≡ counted (number (digits_at lent i)) (get_or copied i false))
    → (i : ℕ) → i < len → number (digits_at new i) ≡ counted (number (digits_at old i)) (get_or bits i false)
each_added old new lent bits copied len same copy long each i low =
    let copy_long = ap length copy in
    each i (omega arith)
    ∙ ap (λ ps. counted (number (digits_at ps i)) (get_or copied i false)) same
    ∙ ap (λ xs. counted (number (digits_at old i)) (get_or xs i false)) copy

pub laid_out_added : (added len : ℕ) (old new : List (List Bool)) (bits carry : List Bool) → added + 1 < 2 ^ 32 → length bits ≡ len → length carry ≡ len
    → length new ≡ length old → All (λ (plane : List Bool). length plane ≡ len) new
    → ((i : ℕ) → i < len → number (digits_at new i) ≡ counted (number (digits_at old i)) (get_or bits i false))
    → AreLaidOut added len old → AreLaidOut (added + 1) (length carry) new
laid_out_added added len old new bits carry room long carry_long many new_long each laid =
    let whole = counts_added len old new bits long each in
    rw carry_long record {
      as_many = many ∙ laid.as_many;
      each_long = new_long;
      counted = record {
        countable = room;
        within = λ i.
            let few = counts_le (counts_of len old) bits added (long ∙ sym (length-counts_of len old)) laid.counted.within i in
            let at = ap (λ xs. get_or xs i 0) whole in
            omega arith;
      };
    }

-- ---- planes with no digit set
number_of_none : (k : ℕ) (plane : List Bool) (i : ℕ) → get_or plane i false ≡ false → number (digits_at (replicate k plane) i) ≡ 0
number_of_none zero plane i none = refl
number_of_none (suc k) plane i none =
    let rest = number_of_none k plane i none in
    let here : cond {A = ℕ} (get_or plane i false) 1 0 ≡ 0 = ap (λ v. cond {A = ℕ} v 1 0) none in
    omega arith

pub counts_of_none : (k len : ℕ) → counts_of len (replicate k (replicate len false)) ≡ replicate len 0
unfolding counts_of
counts_of_none k len =
    replicate_of_range (λ i. number (digits_at (replicate k (replicate len false)) i)) 0 0 len (λ i low high.
    number_of_none k (replicate len false) i (get_or-replicate len i false false (omega arith)))

get_or-zeros : (n k : ℕ) → get_or {A = ℕ} (replicate n 0) k 0 ≤ 0
get_or-zeros zero k = omega arith
get_or-zeros (suc n) zero = omega arith
get_or-zeros (suc n) (suc k) = get_or-zeros n k

pub laid_out_none : (len : ℕ) → AreLaidOut 0 len (replicate 32 (replicate len false))
laid_out_none len = record {
  as_many = length-replicate {A = List Bool} 32 (replicate len false);
  each_long = All-replicate (λ plane. length plane ≡ len) 32 (replicate len false) (length-replicate {A = Bool} len false);
  counted = record { countable = omega arith; within = λ i. let at = ap (λ xs. get_or xs i 0) (counts_of_none 32 len) in let none = get_or-zeros len i in omega arith };
}

pub laid_out_new : (n : ℕ) (planes : List (List Bool)) (carry : List Bool) → planes ≡ replicate 32 (replicate n false) → carry ≡ replicate n false
    → AreLaidOut 0 (length carry) planes
laid_out_new n planes carry none empty = rw (none, empty, length-replicate {A = Bool} n false) (laid_out_none n)

pub counts_new : (n : ℕ) (planes : List (List Bool)) (carry : List Bool) → planes ≡ replicate 32 (replicate n false) → carry ≡ replicate n false
    → counts_of (length carry) planes ≡ replicate n 0
counts_new n planes carry none empty = rw (none, empty, length-replicate {A = Bool} n false) (counts_of_none 32 n)
