-- A buffer that a text is read into.
use Rattle.std.proofs.Common.{◌≡◌, ℕ, ◌+◌, ◌-◌, ◌≤◌, List, ◌++◌, length, take, drop, ap, sym, subst, refl, ◌∙◌, arith}
use Rattle.std.specs.Prelude.{Option, Some, None, option_map, IfSome}
use Rattle.std.proofs.lemmas.List.{drop-drop, take-append-le, length-take-le, length-drop, take_all}
use Rattle.std.proofs.Math.Seq.{take-add, take-append-add}
use borrow.Rule.Slice.PartMut.{put_mid, post_of}
use Rattle.cache_outside.specs.Texts.{IsFront}
use Rattle.run_setup.specs.Texts.{Filled, IsRead, most_read}

-- nothing is read
pub filled_none : (text : Option (List ℕ)) (buffer : List ℕ) → Filled 0 text text buffer
filled_none None buffer = record { rest = refl; front = tt }
filled_none (Some bytes) buffer = record { rest = refl; front = (refl, omega arith) }

front_more : (out part bytes : List ℕ) (count n room : ℕ) → count ≤ length out → n ≤ length part
    → take count out ≡ take count bytes → take n part ≡ take n (drop count bytes)
    → take (count + n) (put_mid count room out part) ≡ take (count + n) bytes
front_more out part bytes count n room inside fits before more =
    let post : List ℕ = post_of count room out in
    let front : length (take count out) ≡ count = length-take-le count out inside in
    ap (λ k. take (k + n) (take count out ++ (part ++ post))) (sym front)
    ∙ take-append-add (take count out) (part ++ post) n
    ∙ ap (λ r. take count out ++ r) (take-append-le n part post fits ∙ more)
    ∙ ap (λ r. r ++ take n (drop count bytes)) before
    ∙ sym (take-add count n bytes)

-- some bytes more are read behind them
pub filled_more : (text left now : Option (List ℕ)) (out part : List ℕ) (count n room : ℕ) → count ≤ length out → n ≤ length part
    → Filled count text left out → IfSome left (λ l. IsFront l part n) → now ≡ option_map (drop n) left
    → Filled (count + n) text now (put_mid count room out part)
filled_more None left now out part count n room inside fits filled given is =
    record { rest = is ∙ ap (option_map (drop n)) filled.rest; front = tt }
filled_more (Some bytes) left now out part count n room inside fits filled given is =
    let front : IsFront (drop count bytes) part n = subst (λ l. IfSome l (λ b. IsFront b part n)) filled.rest given in
    let most : n ≤ length bytes - count = subst (λ k. n ≤ k) (length-drop count bytes) front.most in
    let enough : count ≤ length bytes = filled.front.1 in
    record {
      rest = is ∙ ap (option_map (drop n)) filled.rest ∙ ap Some (drop-drop n count bytes);
      front = (front_more out part bytes count n room inside fits filled.front.0 front.bytes, omega (arith, most, enough));
    }

-- as many bytes as are asked for at most are read
pub read_full : (text left : Option (List ℕ)) (buffer : List ℕ) (count : ℕ) → Filled count text left buffer → count ≡ most_read → IsRead text (take count buffer)
read_full None left buffer count filled full = tt
read_full (Some bytes) left buffer count filled full = filled.front.0 ∙ ap (λ k. take k bytes) full

-- the text has ended
pub read_end : (text left : Option (List ℕ)) (out part : List ℕ) (count room : ℕ) → count ≤ length out → count ≤ most_read
    → Filled count text left out → IfSome left (λ l. IsFront l part 0) → IsRead text (take count (put_mid count room out part))
read_end None left out part count room inside few filled given = tt
read_end (Some bytes) left out part count room inside few filled given =
    let front : IsFront (drop count bytes) part 0 = subst (λ l. IfSome l (λ b. IsFront b part 0)) filled.rest given in
    let none : length bytes - count ≡ 0 = sym (length-drop count bytes) ∙ ap length (front.end refl) in
    let all : length bytes ≤ count = omega (arith, none) in
    let most : length bytes ≤ most_read = omega (arith, all, few) in
    let whole : length (take count out) ≡ count = length-take-le count out inside in
    let least : count ≤ length (take count out) = omega (arith, whole) in
    take-append-le count (take count out) (part ++ post_of count room out) least
    ∙ take_all count (take count out) (omega (arith, whole))
    ∙ filled.front.0
    ∙ take_all count bytes all
    ∙ sym (take_all most_read bytes most)
