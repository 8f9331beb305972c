-- A sink after one piece and another.
use Rattle.std.proofs.Common.{◌≡◌, ℕ, ◌+◌, ◌<◌, List, [], ◌∷◌, ◌++◌, Option, Some, None, take, drop, length, get_or, refl, ap, ap₂, sym, subst, zero, suc, ◌∙◌, append_assoc, add-one, arith}
use Rattle.std.proofs.Math.Seq.{take-add, take-append-add}
use Rattle.std.proofs.lemmas.List.{append-nil}
use Rattle.std.specs.Prelude.{Result, Ok, Err, OnErr}
use Rattle.cache_outside.specs.Sinks.{behind}
use Rattle.mount_script.specs.declared.command.Line.{Line}
use Rattle.mount_script.specs.declared.reply.Reply.{Reply}
use Rattle.script_run.specs.Texts.{line_text, block_text}
use Rattle.script_run.specs.Runs.{IsFront}

pub behind-behind : (o : Option (List ℕ)) (s t : List ℕ) → behind (behind o s) t ≡ behind o (s ++ t)
behind-behind None s t = refl
behind-behind (Some w) s t = ap (λ (x : List ℕ). Some x) (append_assoc w s t)

pub behind_nothing : (o : Option (List ℕ)) → o ≡ behind o []
behind_nothing None = refl
behind_nothing (Some w) = ap (λ (x : List ℕ). Some x) (sym (append-nil w))

pub written_on : (old now new : Option (List ℕ)) (text : List ℕ) (done n : ℕ) → now ≡ behind old (take done text)
    → new ≡ behind now (take n (drop done text)) → new ≡ behind old (take (done + n) text)
written_on old now new text done n before more =
    more ∙ ap (λ o. behind o (take n (drop done text))) before ∙ behind-behind old (take done text) (take n (drop done text)) ∙ ap (behind old) (sym (take-add done n text))

-- one text behind another
pub written_more : (old now new : Option (List ℕ)) (s t : List ℕ) → now ≡ behind old s → new ≡ behind now t → new ≡ behind old (s ++ t)
written_more old now new s t before more = more ∙ ap (λ o. behind o t) before ∙ behind-behind old s t

take_all : (s t : List ℕ) (n : ℕ) → take (length s + n) (s ++ t) ≡ s ++ take n t
take_all s t n = take-append-add s t n

front_take : (n : ℕ) (t u : List ℕ) → (k : ℕ) × (take n t ≡ take k (t ++ u))
front_take zero t u = (zero, refl)
front_take (suc n) [] u = (zero, refl)
front_take (suc n) (x ∷ t) u = let h = front_take n t u in (suc h.0, ap (λ (l : List ℕ). x ∷ l) h.1)

-- a front of a text is one of a longer text
pub front_longer : (old now : Option (List ℕ)) (t u : List ℕ) → IsFront old now t → IsFront old now (t ++ u)
front_longer old now t u front = let h = front_take front.0 t u in (h.0, front.1 ∙ ap (behind old) h.1)

-- a front of the second text
pub front_more : (old now new : Option (List ℕ)) (s t : List ℕ) → now ≡ behind old s → IsFront now new t → IsFront old new (s ++ t)
front_more old now new s t before front =
    (length s + front.0, written_more old now new s (take front.0 t) before front.1 ∙ ap (behind old) (sym (take_all s t front.0)))

-- all of a text is a front of it, and so of more
pub front_whole : (old now : Option (List ℕ)) (s t : List ℕ) → now ≡ behind old s → IsFront old now (s ++ t)
front_whole old now s t before = (length s + 0, before ∙ ap (behind old) (sym (append-nil s) ∙ sym (take_all s t 0)))

-- ---- the lines of a block

block_none : (ls : List Line) → block_text ls [] ≡ []
block_none [] = refl
block_none (l ∷ ls) = refl

-- the text of a block's lines is that of the first ones and of the others
pub block_split : (i : ℕ) (ls : List Line) (xs : List Reply) → block_text ls xs ≡ block_text (take i ls) (take i xs) ++ block_text (drop i ls) (drop i xs)
block_split zero ls xs = refl
block_split (suc i) [] xs = refl
block_split (suc i) (l ∷ ls) [] = sym (block_none (drop i ls))
block_split (suc i) (l ∷ ls) (x ∷ xs) = ap (λ (t : List ℕ). line_text l x ++ t) (block_split i ls xs) ∙ sym (append_assoc (line_text l x) (block_text (take i ls) (take i xs)) (block_text (drop i ls) (drop i xs)))

-- the next line
pub block_more : (i : ℕ) (ls : List Line) (xs : List Reply) (l : Line) (x : Reply) → l ≡ get_or ls i l → x ≡ get_or xs i x → i < length ls → i < length xs
    → block_text (take (i + 1) ls) (take (i + 1) xs) ≡ block_text (take i ls) (take i xs) ++ line_text l x
block_more zero [] xs l x e f h k = absurd (omega (arith, h))
block_more zero (m ∷ ls) [] l x e f h k = absurd (omega (arith, k))
block_more zero (m ∷ ls) (y ∷ xs) l x e f h k = append-nil (line_text m y) ∙ sym (ap₂ line_text e f)
block_more (suc i) [] xs l x e f h k = absurd (omega (arith, h))
block_more (suc i) (m ∷ ls) [] l x e f h k = absurd (omega (arith, k))
block_more (suc i) (m ∷ ls) (y ∷ xs) l x e f h k =
    let fewer : i < length ls = omega (arith, h) in
    let also : i < length xs = omega (arith, k) in
    rw (add-one) (ap (λ (t : List ℕ). line_text m y ++ t) (rw (add-one) at (block_more i ls xs l x e f fewer also))
    ∙ sym (append_assoc (line_text m y) (block_text (take i ls) (take i xs)) (line_text l x)))

-- one line more is written
pub block_written : (old now new : Option (List ℕ)) (i : ℕ) (ls : List Line) (xs : List Reply) (l : Line) (x : Reply) → l ≡ get_or ls i l → x ≡ get_or xs i x → i < length ls → i < length xs
    → now ≡ behind old (block_text (take i ls) (take i xs)) → new ≡ behind now (line_text l x) → new ≡ behind old (block_text (take (i + 1) ls) (take (i + 1) xs))
block_written old now new i ls xs l x e f h k before more =
    written_more old now new (block_text (take i ls) (take i xs)) (line_text l x) before more ∙ ap (behind old) (sym (block_more i ls xs l x e f h k))

-- a front of it
pub block_front : (old now new : Option (List ℕ)) (i : ℕ) (ls : List Line) (xs : List Reply) (l : Line) (x : Reply) → l ≡ get_or ls i l → x ≡ get_or xs i x → i < length ls → i < length xs
    → now ≡ behind old (block_text (take i ls) (take i xs)) → IsFront now new (line_text l x) → IsFront old new (block_text ls xs)
block_front old now new i ls xs l x e f h k before front =
    let P : List ℕ → Type 0 = λ t. IsFront old new t in
    let own = front_more old now new (block_text (take i ls) (take i xs)) (line_text l x) before front in
    let next : IsFront old new (block_text (take (i + 1) ls) (take (i + 1) xs)) = subst P (sym (block_more i ls xs l x e f h k)) own in
    subst P (sym (block_split (i + 1) ls xs)) (front_longer old new (block_text (take (i + 1) ls) (take (i + 1) xs)) (block_text (drop (i + 1) ls) (drop (i + 1) xs)) next)

pub err_of : {T E : Type 0} (P : Type 0) (r : Result T E) → P → OnErr r P
err_of P (Ok x) h = tt {0}
err_of P (Err e) h = h
