-- The neighbours of a node in one list, after a push to its back and after a removal.
use Rattle.std.proofs.Common.{arith, ◌≡◌, ◌≢◌, ◌<◌, ◌≤◌, ℕ, List, [], ◌∷◌, ◌++◌, sym, ◌∙◌, ap, inl, inr, refl, Option, Some, None}
use Rattle.std.specs.Prelude.{◌==◌}
use Rattle.std.proofs.lemmas.Bool.{cases_eq, cases_Bool, eq-eqb, ne_eqb}
use Rattle.freq_lists.specs.Lists.{without, times_in, behind, head}
use Rattle.freq_lists.specs.Links.{ahead, last_of}

some_same : (a b : ℕ) → Some a ≡ Some b → a ≡ b
some_same a b e = cc

-- ---- neighbours and ends are in the list

pub behind_in : (n m : ℕ) (l : List ℕ) → behind n l ≡ Some m → 0 < times_in m l
behind_in n m [] h = cc
behind_in n m (x ∷ []) h = elim (cases_Bool (x == n)) [
  | inl t ↦ let e = rw t at h in cc
  | inr t ↦ let e = rw t at h in cc
]
behind_in n m (x ∷ y ∷ l) h = elim (cases_Bool (x == n)) [
  | inl t ↦ let e : Some y ≡ Some m = rw t at h in rw (eq-eqb y m (some_same y m e)) (omega arith)
  | inr t ↦ let e = rw t at h in omega (arith, behind_in n m (y ∷ l) e)
]

pub ahead_in : (p : Option ℕ) (n m : ℕ) (l : List ℕ) → p ≢ Some m → ahead p n l ≡ Some m → 0 < times_in m l
ahead_in p n m [] d h = cc
ahead_in p n m (x ∷ l) d h = elim (cases_Bool (x == n)) [
  | inl t ↦ absurd (d (let e = rw t at h in e))
  | inr t ↦
      let e = rw t at h in
      elim (cases_eq x m) [
        | inl s ↦ rw (eq-eqb x m s) (omega arith)
        | inr s ↦ omega (arith, ahead_in (Some x) n m l (λ f. s (some_same x m f)) e)
      ]
]

pub last_in : (p : Option ℕ) (m : ℕ) (l : List ℕ) → p ≢ Some m → last_of p l ≡ Some m → 0 < times_in m l
last_in p m [] d h = absurd (d h)
last_in p m (x ∷ l) d h = elim (cases_eq x m) [
  | inl s ↦ rw (eq-eqb x m s) (omega arith)
  | inr s ↦ omega (arith, last_in (Some x) m l (λ f. s (some_same x m f)) h)
]

pub behind_none : (n : ℕ) (l : List ℕ) → times_in n l ≡ 0 → behind n l ≡ None
behind_none n [] h = refl
behind_none n (x ∷ l) h = elim (cases_eq x n) [
  | inl s ↦ absurd (let t = rw (eq-eqb x n s) at h in omega (arith, t))
  | inr s ↦ let t = rw (ne_eqb x n s) at h in rw (ne_eqb x n s) (behind_none n l (omega (arith, t)))
]

pub without_none : (n : ℕ) (l : List ℕ) → times_in n l ≡ 0 → without n l ≡ l
without_none n [] h = refl
without_none n (x ∷ l) h = elim (cases_eq x n) [
  | inl s ↦ absurd (let t = rw (eq-eqb x n s) at h in omega (arith, t))
  | inr s ↦ let t = rw (ne_eqb x n s) at h in rw (ne_eqb x n s) (ap (λ (xs : List ℕ). x ∷ xs) (without_none n l (omega (arith, t))))
]

ahead_some : (x n : ℕ) (l : List ℕ) → 0 < times_in n l → ahead (Some x) n l ≡ None → ⊥
ahead_some x n [] some h = absurd (omega (arith, some))
ahead_some x n (y ∷ l) some h = elim (cases_eq y n) [
  | inl s ↦ let e = rw (eq-eqb y n s) at h in cc
  | inr s ↦ let e = rw (ne_eqb y n s) at h in let t = rw (ne_eqb y n s) at some in ahead_some y n l (omega (arith, t)) e
]

-- ---- a node that is pushed, and those before it

module _ (n : ℕ) where
  pub pushed_behind : (l : List ℕ) → times_in n l ≡ 0 → behind n (l ++ n ∷ []) ≡ None
  pushed_behind [] h = rw (eq-eqb n n refl) refl
  pushed_behind (x ∷ l) h = elim (cases_eq x n) [
    | inl s ↦ absurd (let t = rw (eq-eqb x n s) at h in omega (arith, t))
    | inr s ↦ let t = rw (ne_eqb x n s) at h in rw (ne_eqb x n s) (pushed_behind l (omega (arith, t)))
  ]

  pub pushed_ahead : (p : Option ℕ) (l : List ℕ) → times_in n l ≡ 0 → ahead p n (l ++ n ∷ []) ≡ last_of p l
  pushed_ahead p [] h = rw (eq-eqb n n refl) refl
  pushed_ahead p (x ∷ l) h = elim (cases_eq x n) [
    | inl s ↦ absurd (let t = rw (eq-eqb x n s) at h in omega (arith, t))
    | inr s ↦ let t = rw (ne_eqb x n s) at h in rw (ne_eqb x n s) (pushed_ahead (Some x) l (omega (arith, t)))
  ]

  pub last_pushed : (p : Option ℕ) (l : List ℕ) → last_of p (l ++ n ∷ []) ≡ Some n
  last_pushed p [] = refl
  last_pushed p (x ∷ l) = last_pushed (Some x) l

  module _ (m : ℕ) (other : ¬ (n ≡ m)) where
    pub ahead_kept : (p : Option ℕ) (l : List ℕ) → ahead p m (l ++ n ∷ []) ≡ ahead p m l
    ahead_kept p [] = rw (ne_eqb n m other) refl
    ahead_kept p (x ∷ l) = elim (cases_Bool (x == m)) [
      | inl t ↦ rw t refl
      | inr t ↦ rw t (ahead_kept (Some x) l)
    ]

    pub last_behind : (p : Option ℕ) (l : List ℕ) → p ≢ Some m → times_in m l ≤ 1 → last_of p l ≡ Some m → behind m (l ++ n ∷ []) ≡ Some n
    last_behind p [] d once h = absurd (d h)
    last_behind p (x ∷ []) d once h = let s = some_same x m h in rw (eq-eqb x m s) refl
    last_behind p (x ∷ y ∷ l) d once h = elim (cases_eq x m) [
      | inl s ↦ absurd (
          let t = rw (eq-eqb x m s) at once in
          let e : ¬ (y ≡ m) = λ f. (let u = rw (eq-eqb y m f) at t in absurd (omega (arith, u))) in
          let u = rw (ne_eqb y m e) at t in
          omega (arith, last_in (Some y) m l (λ f. e (some_same y m f)) h, u)
          )
      | inr s ↦ let t = rw (ne_eqb x m s) at once in rw (ne_eqb x m s) (last_behind (Some x) (y ∷ l) (λ f. s (some_same x m f)) (omega (arith, t)) h)
    ]

    pub behind_kept : (p : Option ℕ) (l : List ℕ) → 0 < times_in m l → last_of p l ≢ Some m → behind m (l ++ n ∷ []) ≡ behind m l
    behind_kept p [] some d = absurd (omega (arith, some))
    behind_kept p (x ∷ []) some d = elim (cases_eq x m) [
      | inl s ↦ absurd (d (ap (λ (k : ℕ). Some k) s))
      | inr s ↦ absurd (let t = rw (ne_eqb x m s) at some in omega (arith, t))
    ]
    behind_kept p (x ∷ y ∷ l) some d = elim (cases_eq x m) [
      | inl s ↦ rw (eq-eqb x m s) refl
      | inr s ↦ let t = rw (ne_eqb x m s) at some in rw (ne_eqb x m s) (behind_kept (Some x) (y ∷ l) (omega (arith, t)) d)
    ]

pub head_pushed : (n : ℕ) (l : List ℕ) (x : ℕ) → last_of None l ≡ Some x → head (l ++ n ∷ []) ≡ head l
head_pushed n [] x h = cc
head_pushed n (y ∷ l) x h = refl

pub head_first : (n : ℕ) (p : Option ℕ) (l : List ℕ) → last_of p l ≡ None → head (l ++ n ∷ []) ≡ Some n
head_first n p [] h = refl
head_first n p (x ∷ l) h = absurd (last_some x l h)
  where
    last_some : (y : ℕ) (xs : List ℕ) → last_of (Some y) xs ≡ None → ⊥
    last_some y [] e = cc
    last_some y (x ∷ xs) e = last_some x xs e

-- ---- the nodes beside one that is taken out

module _ (n m : ℕ) (other : ¬ (m ≡ n)) where
  pub behind_joined : (p : Option ℕ) (l : List ℕ) → p ≢ Some m → times_in n l ≤ 1 → times_in m l ≤ 1 → ahead p n l ≡ Some m → behind m (without n l) ≡ behind n l
  behind_joined p [] d once_n once_m h = cc
  behind_joined p (x ∷ l) d once_n once_m h = elim (cases_eq x n) [
    | inl s ↦ absurd (d (let e = rw (eq-eqb x n s) at h in e))
    | inr s ↦
        let e = rw (ne_eqb x n s) at h in
        let a = rw (ne_eqb x n s) at once_n in
        elim (cases_eq x m) [
          | inl t ↦ rw (ne_eqb x n s, eq-eqb x m t) (at_front l (omega (arith, a)) (let b = rw (eq-eqb x m t) at once_m in omega (arith, b)) e)
          | inr t ↦ let b = rw (ne_eqb x m t) at once_m in rw (ne_eqb x n s, ne_eqb x m t) (behind_joined (Some x) l (λ f. t (some_same x m f)) (omega (arith, a)) (omega (arith, b)) e)
        ]
  ]
    where
      at_front : (l' : List ℕ) → times_in n l' ≤ 1 → times_in m l' ≡ 0 → ahead (Some x) n l' ≡ Some m → head (without n l') ≡ behind n l'
      at_front [] a b e = cc
      at_front (y ∷ ys) a b e = elim (cases_eq y n) [
        | inl t ↦ let c = rw (eq-eqb y n t) at a in rw (eq-eqb y n t, without_none n ys (omega (arith, c))) refl
        | inr t ↦
            let f = rw (ne_eqb y n t) at e in
            let z : ¬ (y ≡ m) = λ g. (let u = rw (eq-eqb y m g) at b in absurd (omega (arith, u))) in
            absurd (omega (arith, ahead_in (Some y) n m ys (λ g. z (some_same y m g)) f, b))
      ]

  pub behind_same : (p : Option ℕ) (l : List ℕ) → times_in n l ≤ 1 → 0 < times_in m l → ahead p n l ≢ Some m → behind m (without n l) ≡ behind m l
  behind_same p [] once some d = refl
  behind_same p (x ∷ l) once some d = elim (cases_eq x n) [
    | inl s ↦
        let a = rw (eq-eqb x n s) at once in
        let o : ¬ (x ≡ m) = λ f. other (sym f ∙ s) in
        rw (eq-eqb x n s, without_none n l (omega (arith, a)), ne_eqb x m o) refl
    | inr s ↦
        let e : ahead (Some x) n l ≢ Some m = λ f. d (rw (ne_eqb x n s) f) in
        let a = rw (ne_eqb x n s) at once in
        elim (cases_eq x m) [
          | inl t ↦ rw (ne_eqb x n s, eq-eqb x m t) (at_front l (λ f. e (rw f (ap (λ (k : ℕ). Some k) t))))
          | inr t ↦ let b = rw (ne_eqb x m t) at some in rw (ne_eqb x n s, ne_eqb x m t) (behind_same (Some x) l (omega (arith, a)) (omega (arith, b)) e)
        ]
  ]
    where
      at_front : (l' : List ℕ) → (ahead (Some x) n l' ≡ Some x → ⊥) → head (without n l') ≡ head l'
      at_front [] e = refl
      at_front (y ∷ ys) e = elim (cases_eq y n) [
        | inl t ↦ absurd (e (rw (eq-eqb y n t) refl))
        | inr t ↦ rw (ne_eqb y n t) refl
      ]

  pub ahead_joined : (p : Option ℕ) (l : List ℕ) → times_in n l ≤ 1 → times_in m l ≤ 1 → behind n l ≡ Some m → ahead p m (without n l) ≡ ahead p n l
  ahead_joined p [] once_n once_m h = cc
  ahead_joined p (x ∷ l) once_n once_m h = elim (cases_eq x n) [
    | inl s ↦
        let a = rw (eq-eqb x n s) at once_n in
        let e = rw (eq-eqb x n s) at h in
        rw (eq-eqb x n s, without_none n l (omega (arith, a))) (at_front l e)
    | inr s ↦
        let a = rw (ne_eqb x n s) at once_n in
        let e = rw (ne_eqb x n s) at h in
        let some = behind_in n m l e in
        let t : ¬ (x ≡ m) = λ f. (let b = rw (eq-eqb x m f) at once_m in absurd (omega (arith, b, some))) in
        let b = rw (ne_eqb x m t) at once_m in
        rw (ne_eqb x n s, ne_eqb x m t) (ahead_joined (Some x) l (omega (arith, a)) (omega (arith, b)) e)
  ]
    where
      at_front : (l' : List ℕ) → head l' ≡ Some m → ahead p m l' ≡ p
      at_front [] e = cc
      at_front (y ∷ ys) e = rw (eq-eqb y m (some_same y m e)) refl

  pub ahead_same : (p : Option ℕ) (l : List ℕ) → times_in n l ≤ 1 → behind n l ≢ Some m → ahead p m (without n l) ≡ ahead p m l
  ahead_same p [] once d = refl
  ahead_same p (x ∷ l) once d = elim (cases_eq x n) [
    | inl s ↦
        let a = rw (eq-eqb x n s) at once in
        let e : head l ≢ Some m = λ f. d (rw (eq-eqb x n s) f) in
        let o : ¬ (x ≡ m) = λ f. other (sym f ∙ s) in
        rw (eq-eqb x n s, without_none n l (omega (arith, a)), ne_eqb x m o) (at_front l e)
    | inr s ↦
        let a = rw (ne_eqb x n s) at once in
        let e : behind n l ≢ Some m = λ f. d (rw (ne_eqb x n s) f) in
        rw (ne_eqb x n s) (elim (cases_Bool (x == m)) [
          | inl t ↦ rw t refl
          | inr t ↦ rw t (ahead_same (Some x) l (omega (arith, a)) e)
        ])
  ]
    where
      at_front : (l' : List ℕ) → head l' ≢ Some m → ahead p m l' ≡ ahead (Some x) m l'
      at_front [] e = refl
      at_front (y ∷ ys) e = let o : ¬ (y ≡ m) = λ f. e (ap (λ (k : ℕ). Some k) f) in rw (ne_eqb y m o) refl

module _ (n : ℕ) where
  pub head_joined : (l : List ℕ) → times_in n l ≡ 1 → ahead None n l ≡ None → head (without n l) ≡ behind n l
  head_joined [] one h = absurd (omega (arith, one))
  head_joined (x ∷ l) one h = elim (cases_eq x n) [
    | inl s ↦ let a = rw (eq-eqb x n s) at one in rw (eq-eqb x n s, without_none n l (omega (arith, a))) refl
    | inr s ↦ absurd (let a = rw (ne_eqb x n s) at one in let e = rw (ne_eqb x n s) at h in ahead_some x n l (omega (arith, a)) e)
  ]

  pub head_same : (q : ℕ) (l : List ℕ) → ahead None n l ≡ Some q → head (without n l) ≡ head l
  head_same q [] h = refl
  head_same q (x ∷ l) h = elim (cases_eq x n) [
    | inl s ↦ absurd (let e = rw (eq-eqb x n s) at h in cc)
    | inr s ↦ rw (ne_eqb x n s) refl
  ]

  pub last_joined : (p : Option ℕ) (l : List ℕ) → times_in n l ≡ 1 → behind n l ≡ None → last_of p (without n l) ≡ ahead p n l
  last_joined p [] one h = absurd (omega (arith, one))
  last_joined p (x ∷ l) one h = elim (cases_eq x n) [
    | inl s ↦
        let a = rw (eq-eqb x n s) at one in
        let e = rw (eq-eqb x n s) at h in
        rw (eq-eqb x n s, without_none n l (omega (arith, a))) (at_end l e)
    | inr s ↦ let a = rw (ne_eqb x n s) at one in let e = rw (ne_eqb x n s) at h in rw (ne_eqb x n s) (last_joined (Some x) l (omega (arith, a)) e)
  ]
    where
      at_end : (l' : List ℕ) → head l' ≡ None → last_of p l' ≡ p
      at_end [] e = refl
      at_end (y ∷ ys) e = cc

  pub last_same : (p : Option ℕ) (q : ℕ) (l : List ℕ) → times_in n l ≡ 1 → behind n l ≡ Some q → last_of p (without n l) ≡ last_of p l
  last_same p q [] one h = refl
  last_same p q (x ∷ l) one h = elim (cases_eq x n) [
    | inl s ↦
        let a = rw (eq-eqb x n s) at one in
        let e = rw (eq-eqb x n s) at h in
        rw (eq-eqb x n s, without_none n l (omega (arith, a))) (at_end l e)
    | inr s ↦ let a = rw (ne_eqb x n s) at one in let e = rw (ne_eqb x n s) at h in rw (ne_eqb x n s) (last_same (Some x) q l (omega (arith, a)) e)
  ]
    where
      at_end : (l' : List ℕ) → head l' ≡ Some q → last_of p l' ≡ last_of (Some x) l'
      at_end [] e = cc
      at_end (y ∷ ys) e = refl
