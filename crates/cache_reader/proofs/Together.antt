-- Parts of a read, one behind another.
use Rattle.std.proofs.Common.{arith, ◌≡◌, ◌<◌, ◌≤◌, ◌+◌, ℕ, List, ◌++◌, length, take, drop, Bool, false, refl, ap, sym, ◌∙◌}
use Rattle.std.proofs.lemmas.Slice.{take-put_mid, take-put_mid_below, drop-put_mid}
use Rattle.std.proofs.lemmas.List.{drop-drop}
use borrow.Rule.Slice.PartMut.{put_mid}
use Rattle.blob_parts.specs.Content.{slice_of}
use Rattle.blob_parts.proofs.Taken.{slice_more}
use Rattle.cache_reader.specs.declared.report.Report.{Report}
use Rattle.cache_reader.specs.Reports.{joined, no_bytes, Counted}
use Rattle.cache_reader.specs.Parts.{ReadSetting}
use Rattle.cache_reader.specs.Going.{Moment}
use Rattle.cache_reader.specs.Filling.{PartGoes}
use Rattle.cache_reader.proofs.Joins.{goes_none, goes_more, counted_none, counted_more, takes_none, takes_more}

pub parts_none : (c : ReadSetting) (r : Report) (x : Moment) → PartGoes c 0 false r r x x
parts_none c r x = record { counts = no_bytes; report = counted_none r; all = refl; goes = goes_none c x; takes = λ told. takes_none c false x }

pub parts_more : (c : ReadSetting) (m n size : ℕ) (out_of_memory : Bool) (q r s : Report) (x y z : Moment) → PartGoes c m false q r x y → PartGoes c n out_of_memory r s y z
    → m + n ≡ size → PartGoes c size out_of_memory q s x z
parts_more c m n size out_of_memory q r s x y z h k whole = record {
  counts = joined h.counts k.counts;
  report = counted_more q r s h.counts k.counts h.report k.report;
  all = omega (arith, h.all, k.all, whole);
  goes = goes_more c h.counts k.counts x y z h.goes k.goes;
  takes = λ told. takes_more c false out_of_memory h.counts k.counts x y z (λ e. refl) h.goes k.goes (h.takes told) (k.takes told);
}

-- counts that add up to few bytes do not stop
pub counted_few : (a b n : Report) (d m size : ℕ) → Counted a b n → a.hit + a.direct ≡ d → n.hit + n.direct ≡ m → d + m ≡ size → size ≤ 1099511623680 → b.hit + b.direct ≡ size
counted_few a b n d m size h was more whole few =
    let hits : b.hit < 18446744073709551615 = omega (arith, h.hit.most, was, more, whole, few) in
    let directs : b.direct < 18446744073709551615 = omega (arith, h.direct.most, was, more, whole, few) in
    omega (arith, h.hit.whole hits, h.direct.whole directs, was, more, whole)

-- the next part was refused
pub stopped : (c : ReadSetting) (out_of_memory : Bool) (q r : Report) (x y : Moment) (d : ℕ) → PartGoes c 0 out_of_memory q r x y → q.hit + q.direct ≡ d → d ≤ 1099511623680 → r.hit + r.direct ≡ d
stopped c out_of_memory q r x y d h was few = counted_few q r h.counts d 0 d h.report was h.all (omega arith) few

-- ---- the buffer

pub deeper : (xs ys : List ℕ) (d k : ℕ) → drop d xs ≡ drop d ys → drop (d + k) xs ≡ drop (d + k) ys
deeper xs ys d k h = sym (drop-drop k d xs) ∙ ap (drop k) h ∙ drop-drop k d ys

-- behind the part that was refused it is as before
pub untouched_behind : (out part old : List ℕ) (done room range n : ℕ) → n ≡ done → room ≤ range → length part ≡ room → done ≤ length out → drop done out ≡ drop done old → drop (n + range) (put_mid done room out part) ≡ drop (n + range) old
untouched_behind out part old done room range n same short size inside h =
    drop-put_mid done room out part (n + range) (omega (arith, same, short)) inside size ∙ ap (λ k. drop (k + range) out) same ∙ deeper out old done range h ∙ ap (λ k. drop (k + range) old) (sym same)

-- and before it too
pub filled_before : (out part bytes : List ℕ) (done room at n : ℕ) → n ≡ done → done ≤ length out → take done out ≡ slice_of bytes at done → take n (put_mid done room out part) ≡ slice_of bytes at n
filled_before out part bytes done room at n same inside h =
    take-put_mid_below done room out part n (omega (arith, same)) inside ∙ ap (λ k. take k out) same ∙ h ∙ ap (slice_of bytes at) (sym same)

-- a buffer that holds the first bytes of a range, after the next part of it was read behind them
pub grown : (out part bytes : List ℕ) (done upto n at room : ℕ) → done ≤ length out → length part ≡ n → upto ≡ done + n
    → take done out ≡ slice_of bytes at done → part ≡ slice_of bytes (at + done) n → take upto (put_mid done room out part) ≡ slice_of bytes at upto
grown out part bytes done upto n at room inside fits whole before more =
    take-put_mid done room out part upto (omega (arith, fits, whole)) inside
    ∙ ap (λ r. r ++ part) before ∙ ap (λ r. slice_of bytes at done ++ r) more ∙ slice_more bytes at done n ∙ ap (slice_of bytes at) (sym whole)
