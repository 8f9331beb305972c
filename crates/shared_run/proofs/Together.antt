-- What the workers of a block did makes what the block did.
use Rattle.std.proofs.Common.{◌≡◌, ◌≢◌, ◌∙◌, ◌≤◌, ◌<◌, ◌+◌, ◌*◌, ◌-◌, ◌^◌, ℕ, zero, suc, Bool, true, false, cond, List, [], ◌∷◌, ◌++◌, length, get_or, map, sym, ap, ap₂, subst, refl, inl, inr, arith, add-zero, zero-add, mul-add, mod-lt, min}
use Rattle.std.specs.Prelude.{◌==◌, ◌%◌, ◌||◌, ◌&&◌, IsTrue, Option, Some, None, count_by, sum_by}
use Rattle.std.specs.List.{list_any}
use Rattle.std.proofs.lemmas.Bool.Decides.{eqb_tells, leb_tells}
use Rattle.std.proofs.lemmas.List.{map-append}
use Rattle.std.proofs.lemmas.List.Folds.{list_any-append}
use Rattle.std.proofs.lemmas.List.Sums.{sum_by-cons, sum_by-append}
use Rattle.byte_text.specs.Counts.{Rose}
use Rattle.blob_parts.specs.Reading.{took_none}
use Rattle.std.proofs.Math.Nat.{le_refl}
use Rattle.std.proofs.lemmas.Bool.{or_left, or_right}
use Rattle.cache_outside.specs.Sources.{SourceView}
use Rattle.cache_door.specs.declared.work.Work.{Work}
use Rattle.cache_door.specs.Doors.{no_work}
use Rattle.cache_reader.specs.Bounds.{Bounded}
use Rattle.cache_reader.specs.Reports.{Grew}
use Rattle.cache_reader.specs.Going.{Moment, moment}
use Rattle.cache_table.specs.Calls.{marks}
use Rattle.cache_table.specs.Doors.{view_at}
use Rattle.cache_table.specs.Views.{CacheView, PassView}
use Rattle.index_mounts.specs.Rosters.{RosterView}
use Rattle.mount_script.specs.declared.command.Line.{Line}
use Rattle.mount_script.specs.declared.reply.Reply.{Reply}
use Rattle.script_run.specs.Allowed.{faults_of, is_fault, is_memory, Bears}
use Rattle.script_run.specs.Lines.{Cached}
use Rattle.shared_run.specs.Blocks.{source_at, AllTook, BlockTook, BlockDid, JobsRan, WorkersRan}
use Rattle.shared_run.specs.Dealt.{IsShare, AllDealt}
use Rattle.shared_run.specs.Gathered.{sum_of, lists_of}
use Rattle.shared_run.specs.Shares.{share}
use Rattle.shared_run.specs.Workers.{AllAnswered, LinesDid, unmounted_by, is_decayed, is_cleared}
use Rattle.shared_run.proofs.LinesDone.{answered_grown}
use Rattle.shared_run.proofs.Parts.{faults_are, answered_all, unmounted_some, unmounted_all}
use Rattle.shared_run.proofs.Shares.{other_is, first_holds}
use Rattle.shared_run.proofs.Sums.{counts, counts_all, none_of_share, Reaches, reaches_both, reaches_none, reaches_grew, grew_reaches}

or_some : {Z : Type 0} (a b : Bool) → (a || b) ≡ true → (a ≡ true → Z) → (b ≡ true → Z) → Z
or_some true b e f g = f refl
or_some false b e f g = g e

same_bools : (a b : Bool) → (a ≡ true → b ≡ true) → (b ≡ true → a ≡ true) → a ≡ b
same_bools true b f g = sym (f refl)
same_bools false true f g = g refl
same_bools false false f g = refl

pub marks_both : (xs ys : List ℕ) (n : ℕ) → marks (xs ++ ys) n ≡ (marks xs n || marks ys n)
marks_both xs ys n = list_any-append (λ (m : ℕ). n == m) xs ys

source_front : (olds cs : List SourceView) (i : ℕ) → i < length olds → source_at (olds ++ cs) i ≡ source_at olds i
source_front [] cs i h = absurd (omega (arith, h))
source_front (a ∷ olds) cs zero h = refl
source_front (a ∷ olds) cs (suc i) h = source_front olds cs i (omega (arith, h))

source_behind : (olds news cs : List SourceView) (i : ℕ) → length news ≡ length olds → length olds ≤ i → source_at (news ++ cs) i ≡ source_at (olds ++ cs) i
source_behind [] [] cs i n h = refl
source_behind [] (b ∷ news) cs i n h = absurd (omega (arith, n))
source_behind (a ∷ olds) [] cs i n h = absurd (omega (arith, n))
source_behind (a ∷ olds) (b ∷ news) cs zero n h = absurd (omega (arith, h))
source_behind (a ∷ olds) (b ∷ news) cs (suc i) n h = source_behind olds news cs i (omega (arith, n)) (omega (arith, h))

-- a source behind those of the workers runs no line
no_faults : (w i k : ℕ) (xs : List Reply) → 0 < w → w ≤ i → faults_of w i k xs ≡ 0
no_faults w i k [] some h = refl
no_faults w i k (x ∷ xs) some h =
    let low = mod-lt k some in
    let other : (k % w == i) ≡ false = other_is (k % w) i (λ e. absurd (omega (arith, low, h, e))) in
    let rest = no_faults w i (k + 1) xs some h in
    let one : cond ((k % w == i) && is_fault x) 1 0 ≡ 0 = ap {B = ℕ} (λ (b : Bool). cond (b && is_fault x) 1 0) other in
    omega (arith, one, rest)

-- each worker's replies are its part of the replies of the block
abbrev Fits : ℕ → ℕ → List Reply → List (List Reply) → Type 0
Fits w i replies [] = Unit {0}
Fits w i replies (xs ∷ xss) = (share w i 0 replies ≡ xs) × Fits w (i + 1) replies xss

fits_from : (w i : ℕ) (replies : List Reply) (xss : List (List Reply)) → ((j : ℕ) → j < length xss → share w (i + j) 0 replies ≡ get_or xss j []) → Fits w i replies xss
fits_from w i replies [] h = tt {0}
fits_from w i replies (xs ∷ xss) h = (
  ap (λ (j : ℕ). share w j 0 replies) (sym (add-zero i)) ∙ h 0 (omega arith),
  fits_from w (i + 1) replies xss (λ j below. ap (λ (m : ℕ). share w m 0 replies) (next i j) ∙ h (suc j) (omega (arith, below))),
)
  where
    next : (i j : ℕ) → i + 1 + j ≡ i + suc j
    next i j = omega arith

module _ (e : Cached) (c : CacheView) (r : RosterView) (w : ℕ) (block : List Line) (replies : List Reply) (p : PassView) where
  -- a worker, among them all
  record One (olds news : List SourceView) (qs : List (Option PassView)) (j : ℕ) : Type 0 where
    first : PassView
    last : PassView
    dealt : IsShare c p first
    did : LinesDid e r (share w j 0 block) (share w j 0 replies) (moment (source_at olds j) (view_at c.about first)) (moment (source_at news j) (view_at c.about last))
    gone : (n : ℕ) → marks last.view.gone n ≡ true → marks (lists_of (λ q. q.view.gone) qs) n ≡ true
    unmounted : (n : ℕ) → marks last.view.unmounted n ≡ true → marks (lists_of (λ q. q.view.unmounted) qs) n ≡ true

  module _ (OLDS NEWS : List SourceView) (QS : List (Option PassView)) where
    -- lists that are what is behind the first i of those of all workers
    record Behind (i : ℕ) (olds news : List SourceView) (qs : List (Option PassView)) : Type 0 where
      before : (k : ℕ) → source_at olds k ≡ source_at OLDS (i + k)
      after : (k : ℕ) → source_at news k ≡ source_at NEWS (i + k)
      gone : (n : ℕ) → marks (lists_of (λ q. q.view.gone) qs) n ≡ true → marks (lists_of (λ q. q.view.gone) QS) n ≡ true
      unmounted : (n : ℕ) → marks (lists_of (λ q. q.view.unmounted) qs) n ≡ true → marks (lists_of (λ q. q.view.unmounted) QS) n ≡ true

    behind_next : (i : ℕ) (a b : SourceView) (olds news : List SourceView) (t : PassView) (qs : List (Option PassView)) → Behind i (a ∷ olds) (b ∷ news) (Some t ∷ qs) → Behind (i + 1) olds news qs
    behind_next i a b olds news t qs h = record {
      before = λ k. h.before (suc k) ∙ ap (source_at OLDS) (next i k);
      after = λ k. h.after (suc k) ∙ ap (source_at NEWS) (next i k);
      gone = λ n m. h.gone n (marks_both t.view.gone (lists_of (λ q. q.view.gone) qs) n ∙ or_right _ _ m);
      unmounted = λ n m. h.unmounted n (marks_both t.view.unmounted (lists_of (λ q. q.view.unmounted) qs) n ∙ or_right _ _ m);
    }
      where
        next : (i k : ℕ) → i + suc k ≡ i + 1 + k
        next i k = omega arith

    one_at : (i : ℕ) (xss : List (List Reply)) (olds news : List SourceView) (os qs : List (Option PassView)) → AllDealt c p os → JobsRan e c r w i block xss olds news os qs → Fits w i replies xss
        → Behind i olds news qs → (j : ℕ) → i ≤ j → j < i + length xss → One OLDS NEWS QS j
    one_at i [] olds news os qs dealt ran fits h j low high = absurd (omega (arith, low, high))
    one_at i (xs ∷ xss) (a ∷ olds) (b ∷ news) (Some s ∷ os) (Some t ∷ qs) dealt ran fits h j low high = elim (eqb_tells j i) [
      | inl same ↦ subst (One OLDS NEWS QS) (sym same.1) (record {
        first = s;
        last = t;
        dealt = dealt.0;
        did = subst (λ (ys : List Reply). LinesDid e r (share w i 0 block) ys (moment (source_at OLDS i) (view_at c.about s)) (moment (source_at NEWS i) (view_at c.about t))) (sym fits.0)
            (subst (λ (x : SourceView). LinesDid e r (share w i 0 block) xs (moment x (view_at c.about s)) (moment (source_at NEWS i) (view_at c.about t))) (h.before 0 ∙ ap (source_at OLDS) (add-zero i))
            (subst (λ (x : SourceView). LinesDid e r (share w i 0 block) xs (moment a (view_at c.about s)) (moment x (view_at c.about t))) (h.after 0 ∙ ap (source_at NEWS) (add-zero i)) ran.0.did));
        gone = λ n m. h.gone n (marks_both t.view.gone (lists_of (λ q. q.view.gone) qs) n ∙ or_left _ _ m);
        unmounted = λ n m. h.unmounted n (marks_both t.view.unmounted (lists_of (λ q. q.view.unmounted) qs) n ∙ or_left _ _ m);
      })
      | inr other ↦
          let up : i + 1 ≤ j = by_order i j low (λ k. other.1 (sym k)) in
          let far : j < i + 1 + length xss = omega (arith, high) in
          one_at (i + 1) xss olds news os qs dealt.1 ran.1 fits.1 (behind_next i a b olds news t qs h) j up far
    ]
      where
        by_order : (i j : ℕ) → i ≤ j → i ≢ j → i + 1 ≤ j
        by_order i j h e = omega (arith, h, e)
    one_at i (xs ∷ xss) (a ∷ olds) (b ∷ news) (None ∷ os) qs dealt ran fits h j low high = absurd dealt.0
    one_at i (xs ∷ xss) (a ∷ olds) (b ∷ news) (Some s ∷ os) [] dealt ran fits h j low high = absurd ran
    one_at i (xs ∷ xss) (a ∷ olds) (b ∷ news) (Some s ∷ os) (None ∷ qs) dealt ran fits h j low high = absurd ran.0
    one_at i (xs ∷ xss) olds news os qs dealt ran fits h j low high = absurd ran

  -- a mount that some worker unmounted
  some_worker : (i : ℕ) (xss : List (List Reply)) (olds news : List SourceView) (os qs : List (Option PassView)) → AllDealt c p os → JobsRan e c r w i block xss olds news os qs → Fits w i replies xss
      → (n : ℕ) → marks (lists_of (λ q. q.view.unmounted) qs) n ≡ true → (j : ℕ) × (unmounted_by r (share w j 0 block) (share w j 0 replies) n ≡ true)
  some_worker i [] [] [] [] [] dealt ran fits n h = absurd (cc)
  some_worker i (xs ∷ xss) (a ∷ olds) (b ∷ news) (Some s ∷ os) (Some t ∷ qs) dealt ran fits n h =
      or_some (marks t.view.unmounted n) (marks (lists_of (λ q. q.view.unmounted) qs) n) (sym (marks_both t.view.unmounted (lists_of (λ q. q.view.unmounted) qs) n) ∙ h)
      (λ own. (i, ap (λ (ys : List Reply). unmounted_by r (share w i 0 block) ys n) fits.0 ∙ first_holds (unmounted_by r (share w i 0 block) xs n) (marks s.view.unmounted n) (fresh s dealt.0) (sym (ran.0.did.unmounted n) ∙ own)))
      (λ rest. some_worker (i + 1) xss olds news os qs dealt.1 ran.1 fits.1 n rest)
    where
      fresh : (s : PassView) → IsShare c p s → marks s.view.unmounted n ≡ false
      fresh s k = ap (λ (v : _). marks v.unmounted n) k.view
  some_worker i (xs ∷ xss) (a ∷ olds) (b ∷ news) (None ∷ os) qs dealt ran fits n h = absurd dealt.0
  some_worker i (xs ∷ xss) (a ∷ olds) (b ∷ news) (Some s ∷ os) [] dealt ran fits n h = absurd ran
  some_worker i (xs ∷ xss) (a ∷ olds) (b ∷ news) (Some s ∷ os) (None ∷ qs) dealt ran fits n h = absurd ran.0
  some_worker i xss olds news os qs dealt ran fits n h = absurd ran

  -- ---- counts

  counts_reach : (get : Work → ℕ) (f : Reply → Bool) → get no_work ≡ 0
      → ((ls : List Line) (xs : List Reply) (x y : Moment) → LinesDid e r ls xs x y → Grew (get x.door.work) (get y.door.work) (count_by f xs))
      → (i : ℕ) (xss : List (List Reply)) (olds news : List SourceView) (os qs : List (Option PassView)) → AllDealt c p os → JobsRan e c r w i block xss olds news os qs → Fits w i replies xss
      → Reaches (sum_of (λ q. get q.work) qs) (counts f w i (length xss) 0 replies)
  counts_reach get f none grows i [] [] [] [] [] dealt ran fits = reaches_none
  counts_reach get f none grows i (xs ∷ xss) (a ∷ olds) (b ∷ news) (Some s ∷ os) (Some t ∷ qs) dealt ran fits =
      let own : Reaches (get t.work) (count_by f xs) = reaches_grew (get s.work) (get t.work) (count_by f xs) (ap get dealt.0.work ∙ none) (grows _ _ _ _ ran.0.did) in
      let here : Reaches (get t.work) (count_by f (share w i 0 replies)) = subst (λ (ys : List Reply). Reaches (get t.work) (count_by f ys)) (sym fits.0) own in
      reaches_both (get t.work) (sum_of (λ q. get q.work) qs) (count_by f (share w i 0 replies)) (counts f w (i + 1) (length xss) 0 replies) here
      (counts_reach get f none grows (i + 1) xss olds news os qs dealt.1 ran.1 fits.1)
  counts_reach get f none grows i (xs ∷ xss) (a ∷ olds) (b ∷ news) (None ∷ os) qs dealt ran fits = absurd dealt.0
  counts_reach get f none grows i (xs ∷ xss) (a ∷ olds) (b ∷ news) (Some s ∷ os) [] dealt ran fits = absurd ran
  counts_reach get f none grows i (xs ∷ xss) (a ∷ olds) (b ∷ news) (Some s ∷ os) (None ∷ qs) dealt ran fits = absurd ran.0
  counts_reach get f none grows i xss olds news os qs dealt ran fits = absurd ran

  shares_back : (i : ℕ) (xss : List (List Reply)) (olds news : List SourceView) (os qs : List (Option PassView)) → AllDealt c p os → JobsRan e c r w i block xss olds news os qs
      → sum_of (λ q. q.view.shares) qs ≡ length xss
  shares_back i [] [] [] [] [] dealt ran = refl
  shares_back i (xs ∷ xss) (a ∷ olds) (b ∷ news) (Some s ∷ os) (Some t ∷ qs) dealt ran =
      let one : t.view.shares ≡ 1 = ran.0.shares ∙ ap (λ (v : _). v.shares) dealt.0.view in
      let rest = shares_back (i + 1) xss olds news os qs dealt.1 ran.1 in
      omega (arith, one, rest)
  shares_back i (xs ∷ xss) (a ∷ olds) (b ∷ news) (None ∷ os) qs dealt ran = absurd dealt.0
  shares_back i (xs ∷ xss) (a ∷ olds) (b ∷ news) (Some s ∷ os) [] dealt ran = absurd ran
  shares_back i (xs ∷ xss) (a ∷ olds) (b ∷ news) (Some s ∷ os) (None ∷ qs) dealt ran = absurd ran.0
  shares_back i xss olds news os qs dealt ran = absurd ran

  same_sources : (i : ℕ) (xss : List (List Reply)) (olds news : List SourceView) (os qs : List (Option PassView)) → AllDealt c p os → JobsRan e c r w i block xss olds news os qs
      → (map (λ s. s.identity) news ≡ map (λ s. s.identity) olds) × (length olds ≡ length xss) × (length news ≡ length xss)
  same_sources i [] [] [] [] [] dealt ran = (refl, refl, refl)
  same_sources i (xs ∷ xss) (a ∷ olds) (b ∷ news) (Some s ∷ os) (Some t ∷ qs) dealt ran =
      let h = same_sources (i + 1) xss olds news os qs dealt.1 ran.1 in
      let m = h.1 in
      let n = h.2 in
      (ap₂ (λ (x : ℕ) (xs : List ℕ). x ∷ xs) ran.0.did.identity h.0, omega (arith, m), omega (arith, n))
  same_sources i (xs ∷ xss) (a ∷ olds) (b ∷ news) (None ∷ os) qs dealt ran = absurd dealt.0
  same_sources i (xs ∷ xss) (a ∷ olds) (b ∷ news) (Some s ∷ os) [] dealt ran = absurd ran
  same_sources i (xs ∷ xss) (a ∷ olds) (b ∷ news) (Some s ∷ os) (None ∷ qs) dealt ran = absurd ran.0
  same_sources i xss olds news os qs dealt ran = absurd ran

  -- ---- what was taken

  -- the sums of the workers' counts bound what they took
  record AllBounded (qs : List (Option PassView)) (taken : ℕ) : Type 0 where
    least : sum_of (λ q. q.work.stored) qs ≤ taken
    most : taken ≤ sum_of (λ q. q.work.stored) qs + 2 * e.config.range * sum_of (λ q. q.work.turned_away) qs

  record JobsTook (xss : List (List Reply)) (olds news : List SourceView) (qs : List (Option PassView)) : Type 0 where
    places : List (List (ℕ × ℕ))
    took : AllTook olds news places
    bound : list_any is_memory replies ≡ false → ((k : ℕ) → Rose (source_at olds k).faults (source_at news k).faults → ⊥)
        → sum_of (λ q. q.work.stored) qs < 2 ^ 64 - 1 → sum_of (λ q. q.work.turned_away) qs < 2 ^ 64 - 1 → AllBounded qs (sum_by length places)

  jobs_took : IsTrue e.tells → (i : ℕ) (xss : List (List Reply)) (olds news : List SourceView) (os qs : List (Option PassView)) → AllDealt c p os → JobsRan e c r w i block xss olds news os qs → Fits w i replies xss
      → JobsTook xss olds news qs
  jobs_took told i [] [] [] [] [] dealt ran fits = record { places = []; took = tt {0}; bound = λ enough calm s t. record { least = omega arith; most = omega arith } }
  jobs_took told i (xs ∷ xss) (a ∷ olds) (b ∷ news) (Some s ∷ os) (Some t ∷ qs) dealt ran fits =
      let own = ran.0.did.took told in
      let rest = jobs_took told (i + 1) xss olds news os qs dealt.1 ran.1 fits.1 in
      record {
        places = own.places ∷ rest.places;
        took = (own.took, rest.took);
        bound = λ enough calm below fewer.
            let mine = subst (λ (x : Work). Bounded e.config.range x t.work (length own.places)) dealt.0.work (own.bound (ap (list_any is_memory) (sym fits.0) ∙ none_of_share is_memory w i 0 replies enough) (calm 0)) in
            let one = mine (omega (arith, below)) (omega (arith, fewer)) in
            let others = rest.bound enough (λ k. calm (suc k)) (omega (arith, below)) (omega (arith, fewer)) in
            let all = both e.config.range t.work.stored t.work.turned_away (sum_of (λ q. q.work.stored) qs) (sum_of (λ q. q.work.turned_away) qs) (length own.places) (sum_by length rest.places) one.0 one.1 others.least others.most in
            subst (AllBounded (Some t ∷ qs)) (sym (sum_by-cons length own.places rest.places)) (record { least = all.0; most = all.1 });
      }
    where
      both : (g s u ss us n ns : ℕ) → s ≤ 0 + n → 0 + n + 2 * g * 0 ≤ s + 2 * g * u → ss ≤ ns → ns ≤ ss + 2 * g * us → (s + ss ≤ n + ns) × (n + ns ≤ s + ss + 2 * g * (u + us))
      both g s u ss us n ns h k i j =
          let wide : 2 * g * (u + us) ≡ 2 * g * u + 2 * g * us = mul-add (2 * g) u us in
          (omega (arith, h, i), sums (2 * g * u) (2 * g * us) (2 * g * (u + us)) (2 * g * 0) wide k j)
        where
          sums : (x y z v : ℕ) → z ≡ x + y → 0 + n + v ≤ s + x → ns ≤ ss + y → n + ns ≤ s + ss + z
          sums x y z v d f j = omega (arith, d, f, j)
  jobs_took told i (xs ∷ xss) (a ∷ olds) (b ∷ news) (None ∷ os) qs dealt ran fits = absurd dealt.0
  jobs_took told i (xs ∷ xss) (a ∷ olds) (b ∷ news) (Some s ∷ os) [] dealt ran fits = absurd ran
  jobs_took told i (xs ∷ xss) (a ∷ olds) (b ∷ news) (Some s ∷ os) (None ∷ qs) dealt ran fits = absurd ran.0
  jobs_took told i xss olds news os qs dealt ran fits = absurd ran

-- ---- the block

abbrev no_source : SourceView
no_source = record { identity = 0; faults = 0; reads = None }

source_past : (ss : List SourceView) (i : ℕ) → length ss ≤ i → source_at ss i ≡ no_source
source_past [] i h = refl
source_past (s ∷ ss) zero h = absurd (omega (arith, h))
source_past (s ∷ ss) (suc i) h = source_past ss i (omega (arith, h))

took_same : (cs : List SourceView) → AllTook cs cs (map (λ s. []) cs)
took_same [] = tt {0}
took_same (s ∷ cs) = (took_none s.reads [], took_same cs)

took_front : (olds news cs : List SourceView) (pss : List (List (ℕ × ℕ))) → AllTook olds news pss → AllTook (olds ++ cs) (news ++ cs) (pss ++ map (λ s. []) cs)
took_front [] [] cs [] h = took_same cs
took_front (a ∷ olds) (b ∷ news) cs (ps ∷ pss) h = (h.0, took_front olds news cs pss h.1)
took_front olds news cs pss h = absurd h

none_taken : (cs : List SourceView) → sum_by length (map (λ (s : SourceView). let l : List (ℕ × ℕ) = [] in l) cs) ≡ 0
none_taken [] = refl
none_taken (s ∷ cs) = let h = none_taken cs in let f = sum_by-cons length (let l : List (ℕ × ℕ) = [] in l) (map (λ (s : SourceView). let l : List (ℕ × ℕ) = [] in l) cs) in omega (arith, h, f)

module _ (e : Cached) (c : CacheView) (r : RosterView) (w : ℕ) (block : List Line) (replies : List Reply) (p q : PassView) (xss : List (List Reply)) (olds news cs : List SourceView)
    (some : 0 < w) (ran : WorkersRan e c w r block xss olds news p q) (long : length replies ≡ length block) (each : (i : ℕ) → i < w → share w i 0 replies ≡ get_or xss i []) where
  fits : Fits w 0 replies xss
  fits = fits_from w 0 replies xss (λ j below. ap (λ (m : ℕ). share w m 0 replies) (zero-add j) ∙ each j (omega (arith, below, ran.many)))

  all_same : (map (λ s. s.identity) news ≡ map (λ s. s.identity) olds) × (length olds ≡ length xss) × (length news ≡ length xss)
  all_same = same_sources e c r w block replies p 0 xss olds news ran.dealt ran.back ran.shares ran.ran

  worker : (j : ℕ) → j < w → One e c r w block replies p olds news ran.back j
  worker j below = one_at e c r w block replies p olds news ran.back 0 xss olds news ran.dealt ran.back ran.shares ran.ran fits
      (record { before = λ k. ap (source_at olds) (sym (zero-add k)); after = λ k. ap (source_at news) (sym (zero-add k)); gone = λ n h. h; unmounted = λ n h. h }) j (omega arith) (omega (arith, below, ran.many))

  all_gone : (n : ℕ) → marks (lists_of (λ q. q.view.gone) ran.back) n ≡ true → marks q.view.gone n ≡ true
  all_gone n h = ap (λ (l : List ℕ). marks l n) ran.joined.gone ∙ marks_both p.view.gone (lists_of (λ q. q.view.gone) ran.back) n ∙ or_right _ _ h

  each_answered : (j : ℕ) → j < w → AllAnswered (e.tells && c.about.tells) e.blobs r (marks q.view.gone) (share w j 0 block) (share w j 0 replies)
  each_answered j below =
      let k = worker j below in
      answered_grown (e.tells && c.about.tells) e.blobs r (marks k.last.view.gone) (marks q.view.gone) (share w j 0 block) (share w j 0 replies) (λ n h. all_gone n (k.gone n h)) k.did.answered

  record BearsAt (j : ℕ) (a b : SourceView) : Type 0 where
    bears : Bears (faults_of w j 0 replies) a.faults b.faults
    faults : a.faults ≤ b.faults

  each_bears : (j : ℕ) → BearsAt j (source_at (olds ++ cs) j) (source_at (news ++ cs) j)
  each_bears j = elim (leb_tells w j) [
    | inl far ↦
        let n = all_same.1 in
        let m = all_same.2 in
        let same : source_at (news ++ cs) j ≡ source_at (olds ++ cs) j = source_behind olds news cs j (omega (arith, n, m)) (omega (arith, far.1, ran.many, n)) in
        subst (BearsAt j (source_at (olds ++ cs) j)) (sym same) (record { bears = bears_nothing (faults_of w j 0 replies) (source_at (olds ++ cs) j).faults (no_faults w j 0 replies some far.1); faults = le_refl (source_at (olds ++ cs) j).faults })
    | inr near ↦
        let n = all_same.1 in
        let m = all_same.2 in
        let k = worker j near.1 in
        let first : source_at (olds ++ cs) j ≡ source_at olds j = source_front olds cs j (omega (arith, near.1, ran.many, n)) in
        let last : source_at (news ++ cs) j ≡ source_at news j = source_front news cs j (omega (arith, near.1, ran.many, m)) in
        subst (λ (a : SourceView). BearsAt j a (source_at (news ++ cs) j)) (sym first) (subst (BearsAt j (source_at olds j)) (sym last)
        (record { bears = subst (λ (f : ℕ). Bears f (source_at olds j).faults (source_at news j).faults) (sym (faults_are w j 0 replies)) k.did.bears; faults = k.did.faults }))
  ]
    where
      bears_nothing : (f n : ℕ) → f ≡ 0 → min (n + f) (2 ^ 64 - 1) ≤ n
      bears_nothing f n e = omega (arith, e)

  block_unmounted : (n : ℕ) → marks (lists_of (λ q. q.view.unmounted) ran.back) n ≡ unmounted_by r block replies n
  block_unmounted n = same_bools _ _
      (λ h. (let k = some_worker e c r w block replies p 0 xss olds news ran.dealt ran.back ran.shares ran.ran fits n h in
      unmounted_all (e.tells && c.about.tells) e.blobs r (marks q.view.gone) w some 0 block replies n k.0 k.1 (sym long)))
      (λ h. (let k = unmounted_some (e.tells && c.about.tells) e.blobs r (marks q.view.gone) w some 0 block replies n h in
      let one = worker k.0 k.1 in
      one.unmounted n (one.did.unmounted n ∙ or_left _ _ k.2)))

  pub shares_same : w ≤ p.view.shares → q.view.shares ≡ p.view.shares
  shares_same fewer = let h = shares_back e c r w block replies p 0 xss olds news ran.dealt ran.back ran.shares ran.ran in omega (arith, ran.joined.shares, h, ran.many, fewer)

  reached : (get : Work → ℕ) (f : Reply → Bool) → get no_work ≡ 0
      → ((ls : List Line) (xs : List Reply) (x y : Moment) → LinesDid e r ls xs x y → Grew (get x.door.work) (get y.door.work) (count_by f xs))
      → Reaches (sum_of (λ q. get q.work) ran.back) (count_by f replies)
  reached get f none grows =
      let h = counts_reach e c r w block replies p get f none grows 0 xss olds news ran.dealt ran.back ran.shares ran.ran fits in
      subst (Reaches (sum_of (λ q. get q.work) ran.back)) (ap (λ (n : ℕ). counts f w 0 n 0 replies) ran.many ∙ counts_all f w some 0 replies) h

  block_took : IsTrue e.tells → BlockTook e.config.range (list_any is_memory replies) (olds ++ cs) (news ++ cs) p q
  block_took told =
      let k = jobs_took e c r w block replies p told 0 xss olds news ran.dealt ran.back ran.shares ran.ran fits in
      record {
        places = k.places ++ map (λ s. []) cs;
        took = took_front olds news cs k.places k.took;
        bound = λ enough calm below fewer.
            let s = ran.joined.stored.whole below in
            let t = ran.joined.turned.whole fewer in
            let own : (i : ℕ) → Rose (source_at olds i).faults (source_at news i).faults → ⊥ = λ i rose. calm_front i calm rose in
            let h = k.bound enough own (omega (arith, s, below)) (omega (arith, t, fewer)) in
            subst (λ (n : ℕ). (q.work.stored ≤ p.work.stored + n) × (p.work.stored + n + 2 * e.config.range * p.work.turned_away ≤ q.work.stored + 2 * e.config.range * q.work.turned_away))
            (sym (sum_by-append length k.places (map (λ s. []) cs) ∙ ap (λ (n : ℕ). sum_by length k.places + n) (none_taken cs) ∙ add-zero (sum_by length k.places)))
            (omega (arith, s, h.least), most e.config.range (sum_by length k.places) (sum_of (λ q. q.work.stored) ran.back) (sum_of (λ q. q.work.turned_away) ran.back) s t h.most);
      }
    where
      calm_front : (i : ℕ) → ((i : ℕ) → Rose (source_at (olds ++ cs) i).faults (source_at (news ++ cs) i).faults → ⊥) → Rose (source_at olds i).faults (source_at news i).faults → ⊥
      calm_front i calm rose = elim (leb_tells w i) [
        | inl far ↦
            let n = all_same.1 in
            let m = all_same.2 in
            let first = ap (λ (s : SourceView). s.faults) (source_past olds i (omega (arith, far.1, ran.many, n))) in
            let last = ap (λ (s : SourceView). s.faults) (source_past news i (omega (arith, far.1, ran.many, m))) in
            never (source_at olds i).faults (source_at news i).faults first last rose
        | inr near ↦
            let n = all_same.1 in
            let m = all_same.2 in
            let first = source_front olds cs i (omega (arith, near.1, ran.many, n)) in
            let last = source_front news cs i (omega (arith, near.1, ran.many, m)) in
            calm i (subst (λ (a : SourceView). Rose a.faults (source_at (news ++ cs) i).faults) (sym first) (subst (λ (b : SourceView). Rose (source_at olds i).faults b.faults) (sym last) rose))
      ]
        where
          never : (a b : ℕ) → a ≡ 0 → b ≡ 0 → Rose a b → ⊥
          never a b e f r = omega (arith, e, f, r)

      most : (g n s u : ℕ) → q.work.stored ≡ p.work.stored + s → q.work.turned_away ≡ p.work.turned_away + u → n ≤ s + 2 * g * u
          → p.work.stored + n + 2 * g * p.work.turned_away ≤ q.work.stored + 2 * g * q.work.turned_away
      most g n s u f h k =
          let wide : 2 * g * (p.work.turned_away + u) ≡ 2 * g * p.work.turned_away + 2 * g * u = mul-add (2 * g) p.work.turned_away u in
          sums (2 * g * p.work.turned_away) (2 * g * u) (2 * g * q.work.turned_away) f (ap (λ (m : ℕ). 2 * g * m) h ∙ wide) k
        where
          sums : (x y z : ℕ) → q.work.stored ≡ p.work.stored + s → z ≡ x + y → n ≤ s + y → p.work.stored + n + x ≤ q.work.stored + z
          sums x y z f d k = omega (arith, f, d, k)

  -- all of it
  pub block_did : BlockDid e c w r block replies (olds ++ cs) (news ++ cs) p q
  block_did = record {
    answered = answered_all (e.tells && c.about.tells) e.blobs r (marks q.view.gone) w some 0 block replies (sym long) each_answered;
    bears = λ i. (each_bears i).bears;
    faults = λ i. (each_bears i).faults;
    identities = map-append (λ s. s.identity) news cs ∙ ap (λ (l : List ℕ). l ++ map (λ s. s.identity) cs) all_same.0 ∙ sym (map-append (λ s. s.identity) olds cs);
    unmounted = λ n. ap (λ (l : List ℕ). marks l n) ran.joined.unmounted ∙ marks_both p.view.unmounted (lists_of (λ q. q.view.unmounted) ran.back) n
        ∙ ap (λ (b : Bool). marks p.view.unmounted n || b) (block_unmounted n) ∙ or_swap (marks p.view.unmounted n) (unmounted_by r block replies n);
    decays = grew_reaches _ _ _ _ ran.joined.decays (reached (λ (k : Work). k.decays) is_decayed refl (λ ls xs x y h. h.decays));
    clears = grew_reaches _ _ _ _ ran.joined.clears (reached (λ (k : Work). k.clears) is_cleared refl (λ ls xs x y h. h.clears));
    stored = ran.joined.stored.later;
    turned = ran.joined.turned.later;
    took = block_took;
  }
    where
      or_swap : (a b : Bool) → (a || b) ≡ (b || a)
      or_swap true true = refl
      or_swap true false = refl
      or_swap false true = refl
      or_swap false false = refl
