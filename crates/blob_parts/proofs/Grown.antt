-- A buffer that holds the first bytes of a range, after some more are read behind them.
use Rattle.std.proofs.Common.{◌≡◌, ℕ, ◌+◌, ◌≤◌, List, ◌++◌, length, take, drop, ap, sym, ◌∙◌, arith}
use Rattle.std.proofs.lemmas.List.{drop-drop, take-append-le, length-take-le}
use Rattle.std.proofs.Math.Seq.{take-add, take-append-add}
use borrow.Rule.Slice.PartMut.{put_mid, post_of}
use Rattle.blob_parts.specs.Content.{slice_of}

pub grown : (out part bytes : List ℕ) (done n at room : ℕ) → done ≤ length out → n ≤ length part
    → take done out ≡ slice_of bytes at done
    → take n part ≡ slice_of bytes (at + done) n
    → take (done + n) (put_mid done room out part) ≡ slice_of bytes at (done + n)
grown out part bytes done n at room inside fits before more =
    let post : List ℕ = post_of done room out in
    let front : length (take done out) ≡ done = length-take-le done out inside in
    ap (λ k. take (k + n) (take done out ++ (part ++ post))) (sym front)
    ∙ take-append-add (take done out) (part ++ post) n
    ∙ ap (λ r. take done out ++ r) (take-append-le n part post fits ∙ more ∙ ap (λ r. take n r) (sym (drop-drop done at bytes)))
    ∙ ap (λ r. r ++ take n (drop done (drop at bytes))) before
    ∙ sym (take-add done n (drop at bytes))

-- the same, from the begin on
pub grown_front : (out part bytes : List ℕ) (done n room : ℕ) → done ≤ length out → n ≤ length part
    → take done out ≡ slice_of bytes 0 done
    → take n part ≡ slice_of bytes done n
    → take (done + n) (put_mid done room out part) ≡ slice_of bytes 0 (done + n)
grown_front out part bytes done n room inside fits before more =
    let e : 0 + done ≡ done = omega arith in
    grown out part bytes done n 0 room inside fits before (rw e more)
