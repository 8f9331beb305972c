-- A run by several workers, block after block.
use Rattle.std.proofs.Common.{◌≡◌, ◌∙◌, ◌≤◌, ◌<◌, ◌+◌, ℕ, zero, suc, Bool, true, false, cond, List, [], ◌∷◌, ◌++◌, length, map, set, take, drop, get_or, sym, subst, ap, ap₂, refl, inl, inr, arith, mod-eq_of_lt, min}
use Rattle.std.specs.Cmp.{first_so}
use Rattle.std.specs.Prelude.{IsTrue, Option, Some, None, option_map, ◌||◌, ◌&&◌, ◌==◌, ◌%◌, ◌^◌, ◌-◌, ◌*◌, count_by, sum_by, slice_get}
use Rattle.std.specs.List.{list_any}
use Rattle.std.specs.Str.{bytes_eq}
use Rattle.std.proofs.Math.Nat.{le_refl, le_trans, mul-le-mul_left}
use Rattle.std.proofs.Math.Seq.{take-length}
use Rattle.std.proofs.lemmas.Bool.Decides.{Decides-eqb}
use Rattle.std.proofs.lemmas.List.{append-nil, take-append-drop}
use Rattle.std.proofs.lemmas.List.Sums.{sum_by-append}
use Rattle.std.proofs.Math.Bool.{or-true}
use Rattle.byte_text.specs.Counts.{Rose}
use Rattle.blob_parts.specs.Takes.{SourceLater}
use Rattle.blob_parts.specs.Reading.{rose_first, rose_then}
use Rattle.cache_outside.specs.Clocks.{ClockView, times_after}
use Rattle.cache_outside.specs.Listing.{Listing}
use Rattle.cache_outside.specs.Sinks.{SinkView, behind}
use Rattle.cache_outside.specs.Sources.{SourceView}
use Rattle.cache_reader.specs.Reports.{Grew}
use Rattle.cache_reader.specs.Through.{grew_more, bounded_none, bounded_more}
use Rattle.region_ranges.specs.declared.keys.Config.{Config}
use Rattle.cache_table.specs.Calls.{marks}
use Rattle.cache_table.specs.Views.{CacheView, PassView}
use Rattle.index_mounts.specs.Rosters.{MountView, RosterView, IsRoster, mounted, no_mounts}
use Rattle.mount_script.specs.declared.command.Command.{Command}
use Rattle.mount_script.specs.declared.command.Command.TheVariants.{Mount, Unmount, Clear, Decay, Stats, Search, Fetch, Read}
use Rattle.mount_script.specs.declared.command.Line.{Line}
use Rattle.mount_script.specs.declared.reply.Reply.{Reply}
use Rattle.mount_script.specs.declared.reply.Reply.TheVariants as reply
use Rattle.shard_replies.specs.ExpectedReplies.{Mounts, mount_reply, used_name}
use Rattle.script_run.specs.Mounting.{mounts_of, after_block, after_blocks, nothing_mounted}
use Rattle.script_run.specs.Allowed.{RunSetting, Allowed, AllowedBlock, near_lines, is_unmount_of, faults_of, run_faults, is_fault, Bears, is_mark, is_memory}
use Rattle.script_run.specs.Blocks.{NoMounts, IsBlock, Forgotten, forgets, forgets_any}
use Rattle.script_run.specs.Clocks.{times_asked}
use Rattle.script_run.specs.Counters.{all_replies}
use Rattle.script_run.specs.Lines.{Cached, cached, is_mount, is_shared, IsAnswer}
use Rattle.script_run.specs.MountLines.{MountKind, RosterGoes}
use Rattle.script_run.specs.Runs.{EndsBy, IsFront}
use Rattle.script_run.specs.Texts.{run_text, block_text}
use Rattle.script_run.specs.declared.ended.Ended.{Ended}
use Rattle.script_run.specs.declared.ended.Ended.TheVariants.{Done, SinkFault, NoMemory}
use Rattle.script_run.proofs.Behind.{written_more, front_more, behind_nothing}
use Rattle.script_run.proofs.Blocks.{no_mounts_of, block_makes, block_made, same_mounts, number_cond, mount_mounts, mount_cases}
use Rattle.script_run.proofs.Rosters.{mounted_with}
use Rattle.script_run.proofs.Runs.{allowed_length, from_with, after_more, allowed_run, bears_add, faults_more, replies_more, some_more, many_more, clock_more, not_asked, text_more, front_all, next_blocks}
use Rattle.script_run.proofs.Steps.{count_more}
use Rattle.shared_run.specs.Blocks.{several, source_at, AllTook, BlockDid}
use Rattle.shared_run.specs.Runs.{outsides, IsAsked, BytesTaken, BlockTaken, AllTaken, NoneRose, IsSharedRun, NoneGone, BlockRan, RunSoFar, WrittenSoFar}
use Rattle.shared_run.specs.Workers.{ReplyKind, AllAnswered, has_number, unmounts, unmounted_by, is_decayed, is_cleared}
use Rattle.shared_run.proofs.Allows.{line_names}
use Rattle.shared_run.proofs.LinesDone.{same_grew}
use Rattle.shared_run.proofs.Shares.{other_is}

-- ---- bytes taken

-- lines without a `mount` took what they took
taken_apart : (block : List Line) (before now : List SourceView) (places : List (List (ℕ × ℕ))) → NoMounts block → AllTook before now places → BlockTaken block before now (sum_by length places)
taken_apart block before now places plain took = subst (λ (b : Bool). BytesTaken b before now (sum_by length places)) (sym (none_mounts block plain)) (places, took, refl)
  where
    none_mounts : (ls : List Line) → NoMounts ls → list_any (λ (l : Line). is_mount l.command) ls ≡ false
    none_mounts [] h = refl
    none_mounts (l ∷ ls) h = ap (λ (b : Bool). b || list_any (λ (l : Line). is_mount l.command) ls) h.0 ∙ none_mounts ls h.1

-- one block more
taken_more : (done : List (List Line)) (block : List Line) (a b c : List SourceView) (n m : ℕ) → AllTaken done a b n → BlockTaken block b c m → AllTaken (done ++ block ∷ []) a c (n + m)
taken_more [] block a b c n m h k = (c, m, 0, subst (λ (l : List SourceView). BlockTaken block l c m) h.0 k, (refl, refl), count n h.1)
  where
    count : (n : ℕ) → n ≡ 0 → n + m ≡ m + 0
    count n e = omega (arith, e)
taken_more (d ∷ ds) block a b c n m (mid, here, rest, first, h, sum) k = (mid, here, rest + m, first, taken_more ds block mid b c rest m h k, omega (arith, sum))

any_both : (xs ys : List Reply) → list_any is_memory (xs ++ ys) ≡ false → (list_any is_memory xs ≡ false) × (list_any is_memory ys ≡ false)
any_both [] ys h = (refl, h)
any_both (x ∷ xs) ys h = by_first (is_memory x) h (any_both xs ys)
  where
    by_first : (b : Bool) → (b || list_any is_memory (xs ++ ys)) ≡ false → (list_any is_memory (xs ++ ys) ≡ false → (list_any is_memory xs ≡ false) × (list_any is_memory ys ≡ false))
        → ((b || list_any is_memory xs) ≡ false) × (list_any is_memory ys ≡ false)
    by_first true e rest = absurd (cc)
    by_first false e rest = rest e

module _ (a b c : List SourceView) (on : (i : ℕ) → (source_at a i).faults ≤ (source_at b i).faults) (up : (i : ℕ) → (source_at b i).faults ≤ (source_at c i).faults) (none : NoneRose a c) where
  none_first : NoneRose a b
  none_first i r = none i (rose_first (source_at a i).faults (source_at b i).faults (source_at c i).faults (up i) r)

  none_then : NoneRose b c
  none_then i r = none i (rose_then (source_at a i).faults (source_at b i).faults (source_at c i).faults (on i) r)

-- ---- a block of the workers

pub answered_length : (tells : Bool) (blobs : Listing) (r : RosterView) (seen : ℕ → Bool) (ls : List Line) (xs : List Reply) → AllAnswered tells blobs r seen ls xs → length xs ≡ length ls
answered_length tells blobs r seen [] [] h = refl
answered_length tells blobs r seen [] (x ∷ xs) h = absurd h
answered_length tells blobs r seen (l ∷ ls) [] h = absurd h
answered_length tells blobs r seen (l ∷ ls) (x ∷ xs) h = ap suc (answered_length tells blobs r seen ls xs h.1)

-- a mount that lines unmounted is one of the roster
of_roster : (r : RosterView) (ls : List Line) (xs : List Reply) (n : ℕ) → unmounted_by r ls xs n ≡ true → (name : List ℕ) × (m : MountView) × (mounted name r ≡ Some m) × (n ≡ m.mount)
of_roster r [] xs n h = absurd (cc)
of_roster r (l ∷ ls) [] n h = absurd (cc)
of_roster r (l ∷ ls) (x ∷ xs) n h = by_line (unmounts r l.command x n) refl h (of_roster r ls xs n)
  where
    by_mount : (o : Option MountView) → mounted (used_name l.command) r ≡ o → has_number n o ≡ true → (name : List ℕ) × (m : MountView) × (mounted name r ≡ Some m) × (n ≡ m.mount)
    by_mount None e u = absurd (cc)
    by_mount (Some m) e u = (used_name l.command, m, e, (Decides-eqb n m.mount).0 u)

    by_reply : (y : Reply) → unmounts r l.command y n ≡ true → (name : List ℕ) × (m : MountView) × (mounted name r ≡ Some m) × (n ≡ m.mount)
    by_reply reply.Unmounted u = by_mount (mounted (used_name l.command) r) refl u
    by_reply y u = absurd (cc)

    by_line : (b : Bool) → unmounts r l.command x n ≡ b → (b || unmounted_by r ls xs n) ≡ true → (unmounted_by r ls xs n ≡ true → (name : List ℕ) × (m : MountView) × (mounted name r ≡ Some m) × (n ≡ m.mount))
        → (name : List ℕ) × (m : MountView) × (mounted name r ≡ Some m) × (n ≡ m.mount)
    by_line true e u f = by_reply x e
    by_line false e u f = f u

module _ (tells : Bool) (blobs : Listing) (r : RosterView) (kept : IsRoster tells blobs r) (name : List ℕ) (m : MountView) (is : mounted name r ≡ Some m) where
  forgets_own : (c : Command) (x : Reply) → is_mount c ≡ false → ReplyKind c (mounted (used_name c) r) x → unmounts r c x m.mount ≡ true → forgets c x name ≡ true
  forgets_own c reply.Unmounted one kind u = by_name c (line_names tells blobs r kept name m is c reply.Unmounted one kind u)
    where
      by_name : (c : Command) → is_unmount_of name c ≡ true → forgets c reply.Unmounted name ≡ true
      by_name (Unmount other) e = e
      by_name (Mount other manifest) e = absurd (cc)
      by_name (Clear other) e = absurd (cc)
      by_name Decay e = absurd (cc)
      by_name Stats e = absurd (cc)
      by_name (Search other size text) e = absurd (cc)
      by_name (Fetch other segment doc) e = absurd (cc)
      by_name (Read other file at len) e = absurd (cc)
  forgets_own c x one kind u = absurd (cc)

  -- a mount that lines unmounted is taken out of the roster behind them
  block_forgets : (told : Bool) (seen : ℕ → Bool) (ls : List Line) (xs : List Reply) → NoMounts ls → AllAnswered told blobs r seen ls xs → unmounted_by r ls xs m.mount ≡ true → forgets_any ls xs name ≡ true
  block_forgets told seen [] xs one h u = absurd (cc)
  block_forgets told seen (l ∷ ls) [] one h u = absurd h
  block_forgets told seen (l ∷ ls) (x ∷ xs) one h u = by_line (unmounts r l.command x m.mount) refl u (block_forgets told seen ls xs one.1 h.1)
    where
      by_line : (b : Bool) → unmounts r l.command x m.mount ≡ b → (b || unmounted_by r ls xs m.mount) ≡ true → (unmounted_by r ls xs m.mount ≡ true → forgets_any ls xs name ≡ true) → forgets_any (l ∷ ls) (x ∷ xs) name ≡ true
      by_line true e u f = ap (λ (b : Bool). b || forgets_any ls xs name) (forgets_own l.command x one.0 h.0.kind e)
      by_line false e u f = ap (λ (b : Bool). forgets l.command x name || b) (f u) ∙ or-true (forgets l.command x name)

module _ (e : Cached) (c : CacheView) (w regions : ℕ) (r q : RosterView) (block : List Line) (xs : List Reply) (before now : List SourceView) (p t : PassView)
    (kept : IsRoster e.tells e.blobs r) (plain : NoMounts block) (none : NoneGone r p) (did : BlockDid e c w r block xs before now p t) (f : Forgotten block xs r q) where
  abbrev told : Bool
  told = e.tells && c.about.tells

  still : (n : ℕ) → unmounted_by r block xs n ≡ false → marks p.view.unmounted n ≡ false → marks t.view.unmounted n ≡ false
  still n a b = did.unmounted n ∙ ap₂ (λ (x y : Bool). x || y) a b

  not_by : (n : ℕ) (b : Bool) → unmounted_by r block xs n ≡ b → (unmounted_by r block xs n ≡ true → ⊥) → b ≡ false
  not_by n true is never = absurd (never is)
  not_by n false is never = refl

  block_none : NoneGone q t
  block_none = record {
    names = λ name m is. by_name name m (forgets_any block xs name) refl is;
    numbers = λ n past. still n (not_by n (unmounted_by r block xs n) refl (λ u. made n past u)) (none.numbers n (omega (arith, f.made, past)));
  }
    where
      by_name : (name : List ℕ) (m : MountView) (b : Bool) → forgets_any block xs name ≡ b → mounted name q ≡ Some m → marks t.view.unmounted m.mount ≡ false
      by_name name m true is there = let gone : mounted name q ≡ None = f.mounts name ∙ ap (λ (b : Bool). cond b None (mounted name r)) is in absurd (cc)
      by_name name m false is there =
          let own : mounted name r ≡ Some m = sym (f.mounts name ∙ ap (λ (b : Bool). cond b None (mounted name r)) is) ∙ there in
          still m.mount (not_by m.mount (unmounted_by r block xs m.mount) refl (λ u. (let taken = block_forgets e.tells e.blobs r kept name m own told (marks t.view.gone) block xs plain did.answered u in absurd (cc))))
          (none.names name m own)

      made : (n : ℕ) → q.made ≤ n → unmounted_by r block xs n ≡ true → ⊥
      made n past u =
          let k = of_roster r block xs n u in
          let own = kept.mounts k.0 k.1 k.2 in
          absurd (omega (arith, own.below, k.3, f.made, past))

  pub block_ran : AllowedBlock (several told e.blobs w regions) (mounts_of r) block xs → BlockRan e (several told e.blobs w regions) r q block xs before now p t
  block_ran allowed =
      let many = answered_length told e.blobs r (marks t.view.gone) block xs did.answered in
      record {
        allowed = allowed;
        mounts = λ k. same_mounts (mounts_of q) (after_block e.blobs block xs (mounts_of r))
            (λ other. ap (λ (o : Option MountView). option_map (λ (m : MountView). m.number) o) (f.mounts other) ∙ number_cond (forgets_any block xs other) (mounted other r)
            ∙ sym (block_makes e.blobs block xs (mounts_of r) other plain many))
            (f.made ∙ sym (block_made e.blobs block xs (mounts_of r) plain many));
        bears = did.bears;
        faults = did.faults;
        identities = did.identities;
        decays = did.decays;
        clears = did.clears;
        stored = did.stored;
        turned = did.turned;
        took = λ o. (let k = did.took o in record {
          bytes = sum_by length k.places;
          taken = taken_apart block before now k.places plain k.took;
          bound = k.bound;
        });
        none = block_none;
      }

-- ---- a mount line

mount_fits : (s : RunSetting) (m : Mounts) (near : List Line) (tells : Bool) (name manifest : List ℕ) (x : Reply) → (IsTrue s.tells → IsTrue tells) → MountKind x → IsAnswer tells (mount_reply s.blobs m name manifest) x
    → Allowed s m near (Mount name manifest) x
mount_fits s m near tells name manifest (reply.Mounted files docs) t k h = λ u. h (t u)
mount_fits s m near tells name manifest (reply.Refused text) t k h = λ u. h (t u)
mount_fits s m near tells name manifest reply.Fault t k h = refl
mount_fits s m near tells name manifest reply.NoMemory t k h = tt {0}
mount_fits s m near tells name manifest x t k h = absurd k

-- nothing was unmounted, and no number of a mount to come
mount_none : (tells : Bool) (blobs : Listing) (name manifest : List ℕ) (r q : RosterView) (x : Reply) (p t : PassView) → NoneGone r p → RosterGoes tells blobs name manifest r q x
    → ((n : ℕ) → marks t.view.unmounted n ≡ marks p.view.unmounted n) → NoneGone q t
mount_none tells blobs name manifest r q x p t none h same = record { names = names; numbers = numbers }
  where
    by_cond : (other : List ℕ) (m new : MountView) (b : Bool) → new.mount ≡ r.made → mounted other q ≡ cond b (Some new) (mounted other r) → mounted other q ≡ Some m → marks t.view.unmounted m.mount ≡ false
    by_cond other m new true number e is =
        let one : new ≡ m = cc in
        let past : r.made ≤ m.mount = omega (arith, ap (λ (k : MountView). k.mount) one, number) in
        same m.mount ∙ none.numbers m.mount past
    by_cond other m new false number e is = same m.mount ∙ none.names other m (sym e ∙ is)

    names : (other : List ℕ) (m : MountView) → mounted other q ≡ Some m → marks t.view.unmounted m.mount ≡ false
    names other m is = elim (mount_cases tells blobs name manifest r q x h) [
      | inl k ↦ same m.mount ∙ none.names other m (ap (mounted other) (sym k.0) ∙ is)
      | inr k ↦ by_cond other m (record { mount = r.made; number = k.0.number; facts = k.0.facts; parts = k.0.parts }) (bytes_eq name other) refl
          (ap (mounted other) k.0.made ∙ mounted_with name k.0.number k.0.facts k.0.parts r other) is
    ]

    numbers : (n : ℕ) → q.made ≤ n → marks t.view.unmounted n ≡ false
    numbers n past = elim (mount_cases tells blobs name manifest r q x h) [
      | inl k ↦ same n ∙ none.numbers n (omega (arith, ap (λ (k : RosterView). k.made) k.0, past))
      | inr k ↦ same n ∙ none.numbers n (omega (arith, ap (λ (k : RosterView). k.made) k.0.made, past))
    ]

-- replies to a mount count no decay and no clear
mount_quiet : (x : Reply) → MountKind x → (count_by is_decayed (x ∷ []) ≡ 0) × (count_by is_cleared (x ∷ []) ≡ 0)
mount_quiet (reply.Mounted files docs) k = (refl, refl)
mount_quiet (reply.Refused text) k = (refl, refl)
mount_quiet reply.Fault k = (refl, refl)
mount_quiet reply.NoMemory k = (refl, refl)
mount_quiet x k = absurd k

-- the first source's count bears the fault of a mount line
mount_bears : (w i : ℕ) (x : Reply) (a b : SourceView) (ss : List SourceView) → 0 < w → SourceLater a b (x ≡ reply.Fault)
    → Bears (faults_of w i 0 (x ∷ [])) (source_at (a ∷ ss) i).faults (source_at (b ∷ ss) i).faults × ((source_at (a ∷ ss) i).faults ≤ (source_at (b ∷ ss) i).faults)
mount_bears w zero x a b ss some h = (by_fault x h.failed, h.later)
  where
    at_most : (f : ℕ) → f ≤ 1 → Rose a.faults b.faults → min (a.faults + f) (2 ^ 64 - 1) ≤ b.faults
    at_most f small r = omega (arith, small, r)

    one_at_most : (p : Bool) → cond (p && true) 1 0 + 0 ≤ 1
    one_at_most true = omega arith
    one_at_most false = omega arith

    none : (p : Bool) → cond (p && false) 1 0 + 0 ≡ 0
    none true = refl
    none false = refl

    calm : (f : ℕ) → f ≡ 0 → min (a.faults + f) (2 ^ 64 - 1) ≤ b.faults
    calm f e = (let l = h.later in omega (arith, l, e))

    by_fault : (y : Reply) → (y ≡ reply.Fault → Rose a.faults b.faults) → Bears (faults_of w 0 0 (y ∷ [])) a.faults b.faults
    by_fault reply.Fault r = at_most (faults_of w 0 0 (reply.Fault ∷ [])) (one_at_most (0 % w == 0)) (r refl)
    by_fault y r = calm (faults_of w 0 0 (y ∷ [])) (none (0 % w == 0))
mount_bears w (suc i) x a b ss some h = (other (faults_of w (suc i) 0 (x ∷ [])) (source_at ss i).faults zero_faults, le_refl (source_at ss i).faults)
  where
    other : (f n : ℕ) → f ≡ 0 → min (n + f) (2 ^ 64 - 1) ≤ n
    other f n e = omega (arith, e)

    apart : (0 % w == suc i) ≡ false
    apart = let none : 0 % w ≡ 0 = mod-eq_of_lt some in other_is (0 % w) (suc i) (λ e. absurd (omega (arith, none, e)))

    zero_faults : faults_of w (suc i) 0 (x ∷ []) ≡ 0
    zero_faults = ap {B = ℕ} (λ (b : Bool). cond (b && is_fault x) 1 0 + 0) apart

none_more : (g s t a b : ℕ) → a ≤ b → s ≤ t → s + 0 + 2 * g * a ≤ t + 2 * g * b
none_more g s t a b h k = sums (2 * g * a) (2 * g * b) (mul-le-mul_left (2 * g) h)
  where
    sums : (x y : ℕ) → x ≤ y → s + 0 + x ≤ t + y
    sums x y e = omega (arith, e, k)

mount_one : (tells frames : Bool) (blobs : Listing) (config : Config) (w regions number : ℕ) (name manifest : List ℕ) (r q : RosterView) (x : Reply) (a b : SourceView) (ss : List SourceView) (p t : PassView)
    → 0 < w → NoneGone r p → IsAnswer tells (mount_reply blobs (mounts_of r) name manifest) x → MountKind x → RosterGoes tells blobs name manifest r q x → SourceLater a b (x ≡ reply.Fault)
    → ((n : ℕ) → marks t.view.unmounted n ≡ marks p.view.unmounted n) → Grew p.work.decays t.work.decays 0 → Grew p.work.clears t.work.clears 0 → Grew p.work.stored t.work.stored 0 → Grew p.work.turned_away t.work.turned_away 0
    → BlockRan (cached tells blobs config) (several (tells && frames) blobs w regions) r q (record { number = number; command = Mount name manifest } ∷ []) (x ∷ []) (a ∷ ss) (b ∷ ss) p t
mount_one tells frames blobs config w regions number name manifest r q x a b ss p t some none answer kind goes source same decays clears stored turned =
    let s = several (tells && frames) blobs w regions in
    let l : Line = record { number = number; command = Mount name manifest } in
    let quiet = mount_quiet x kind in
    record {
      allowed = (mount_fits s (mounts_of r) (near_lines s (l ∷ []) []) tells name manifest x (first_so tells frames) kind answer, tt {0});
      mounts = λ k. mount_mounts tells blobs name manifest r q x goes (first_so tells frames k);
      bears = λ i. (mount_bears w i x a b ss some source).0;
      faults = λ i. (mount_bears w i x a b ss some source).1;
      identities = ap (λ (n : ℕ). n ∷ map (λ s. s.identity) ss) source.identity;
      decays = subst (Grew p.work.decays t.work.decays) (sym quiet.0) decays;
      clears = subst (Grew p.work.clears t.work.clears) (sym quiet.1) clears;
      stored = stored.later;
      turned = turned.later;
      took = λ o. record { bytes = 0; taken = refl; bound = λ enough calm below fewer. (omega (arith, stored.most), none_more config.range p.work.stored t.work.stored p.work.turned_away t.work.turned_away turned.later stored.later) };
      none = mount_none tells blobs name manifest r q x p t none goes same;
    }

pub mount_ran : (tells frames : Bool) (blobs : Listing) (config : Config) (w regions : ℕ) (block : List Line) (l : Line) (name manifest : List ℕ) (r q : RosterView) (x : Reply) (xs : List Reply) (before now : List SourceView) (a b : SourceView) (p t : PassView)
    → block ≡ l ∷ [] → l.command ≡ Mount name manifest → xs ≡ x ∷ [] → 0 < length before → a ≡ source_at before 0 → now ≡ set before 0 b
    → 0 < w → NoneGone r p → IsAnswer tells (mount_reply blobs (mounts_of r) name manifest) x → MountKind x → RosterGoes tells blobs name manifest r q x → SourceLater a b (x ≡ reply.Fault)
    → ((n : ℕ) → marks t.view.unmounted n ≡ marks p.view.unmounted n) → Grew p.work.decays t.work.decays 0 → Grew p.work.clears t.work.clears 0 → Grew p.work.stored t.work.stored 0 → Grew p.work.turned_away t.work.turned_away 0
    → BlockRan (cached tells blobs config) (several (tells && frames) blobs w regions) r q block xs before now p t
mount_ran tells frames blobs config w regions block l name manifest r q x xs [] now a b p t one is only some first set some_workers none answer kind goes source same decays clears stored turned = absurd (omega (arith, some))
mount_ran tells frames blobs config w regions block l name manifest r q x xs (s ∷ ss) now a b p t one is only some first set some_workers none answer kind goes source same decays clears stored turned =
    let S = several (tells && frames) blobs w regions in
    let E = cached tells blobs config in
    let own : SourceLater s b (x ≡ reply.Fault) = subst (λ (k : SourceView). SourceLater k b (x ≡ reply.Fault)) first source in
    let base = mount_one tells frames blobs config w regions l.number name manifest r q x s b ss p t some_workers none answer kind goes own same decays clears stored turned in
    subst (λ (k : List SourceView). BlockRan E S r q block xs (s ∷ ss) k p t) (sym set)
    (subst (λ (ys : List Reply). BlockRan E S r q block ys (s ∷ ss) (b ∷ ss) p t) (sym only)
    (subst (λ (ls : List Line). BlockRan E S r q ls (x ∷ []) (s ∷ ss) (b ∷ ss) p t) (sym one)
    (subst (λ (c : Command). BlockRan E S r q (record { number = l.number; command = c } ∷ []) (x ∷ []) (s ∷ ss) (b ∷ ss) p t) (sym is) base)))

-- ---- one block more

module _ (e : Cached) (s : RunSetting) where
  run_more : (done : List (List Line)) (replies : List (List Reply)) (r q : RosterView) (a b c : List SourceView) (t u d : Option (List ℕ)) (p k y : PassView) (block : List Line) (xs : List Reply)
      → RunSoFar e s done replies r a b t u p k → d ≡ option_map times_after u → BlockRan e s r q block xs b c k y → RunSoFar e s (done ++ block ∷ []) (replies ++ xs ∷ []) q a c t d p y
  run_more done replies r q a b c t u d p k y block xs h asked g =
      let m = after_blocks s.blobs done replies nothing_mounted in
      record {
        many = many_more replies xs ∙ ap suc h.many ∙ sym (count_more done block);
        allowed = allowed_run s nothing_mounted done replies block xs h.allowed (from_with s (mounts_of r) m block [] block xs h.mounts g.allowed);
        mounts = λ o. g.mounts o ∙ ap (after_block s.blobs block xs) (h.mounts o) ∙ sym (after_more s.blobs done replies block xs nothing_mounted h.many);
        bears = λ i. subst (λ (n : ℕ). Bears n (source_at a i).faults (source_at c i).faults) (sym (faults_more s.workers i replies xs))
            (bears_add (run_faults s.workers i replies) (faults_of s.workers i 0 xs) (source_at a i).faults (source_at b i).faults (source_at c i).faults (h.bears i) (g.bears i));
        identities = g.identities ∙ h.identities;
        clock = clock_more (length done) t u d h.clock asked ∙ ap (λ (n : ℕ). option_map (times_asked n) t) (sym (count_more done block));
        decays = subst (Grew p.work.decays y.work.decays) (sym (counted is_decayed)) (grew_more p.work.decays k.work.decays y.work.decays (count_by is_decayed (all_replies replies)) (count_by is_decayed xs) h.decays g.decays);
        clears = subst (Grew p.work.clears y.work.clears) (sym (counted is_cleared)) (grew_more p.work.clears k.work.clears y.work.clears (count_by is_cleared (all_replies replies)) (count_by is_cleared xs) h.clears g.clears);
        faults = λ i. le_trans (h.faults i) (g.faults i);
        took = λ o. (let j = h.took o in let n = g.took o in record {
          bytes = j.bytes + n.bytes;
          taken = taken_more done block a b c j.bytes n.bytes j.taken n.taken;
          bound = λ enough calm.
              let parts = any_both (all_replies replies) xs (ap (list_any is_memory) (sym (replies_more replies xs)) ∙ enough) in
              bounded_more e.config.range p.work k.work y.work j.bytes n.bytes g.stored g.turned (j.bound parts.0 (none_first a b c h.faults g.faults calm)) (n.bound parts.1 (none_then a b c h.faults g.faults calm));
        });
        none = g.none;
      }
    where
      counted : (f : Reply → Bool) → count_by f (all_replies (replies ++ xs ∷ [])) ≡ count_by f (all_replies replies) + count_by f xs
      counted f = ap (count_by f) (replies_more replies xs) ∙ sum_by-append (λ (x : Reply). cond (f x) 1 0) (all_replies replies) xs

  -- before the first block
  pub started : (r : RosterView) (a : List SourceView) (t : Option (List ℕ)) (p : PassView) (x : SinkView) → r ≡ no_mounts → ((n : ℕ) → marks p.view.unmounted n ≡ false)
      → WrittenSoFar e s [] r false false a a t t p p x x
  started r a t p x is none = record {
    replies = [];
    ran = record {
      many = refl;
      allowed = tt {0};
      mounts = λ k. ap mounts_of is;
      bears = λ i. nothing (source_at a i).faults;
      identities = refl;
      clock = not_asked t;
      decays = same_grew p.work.decays p.work.decays 0 refl refl;
      clears = same_grew p.work.clears p.work.clears 0 refl refl;
      faults = λ i. le_refl (source_at a i).faults;
      took = λ o. record { bytes = 0; taken = (refl, refl); bound = λ enough calm. bounded_none e.config.range p.work };
      none = record { names = λ name m is. none m.mount; numbers = λ n past. none n };
    };
    written = behind_nothing x.written;
    faults = le_refl x.faults;
    marks = refl;
    lacks = refl;
  }
    where
      nothing : (n : ℕ) → min (n + 0) (2 ^ 64 - 1) ≤ n
      nothing n = omega arith

  ended : (script blocks rest : List (List Line)) (replies : List (List Reply)) (r : RosterView) (a b : List SourceView) (x y : SinkView) (t u v : ClockView) (p q : PassView) (end : Ended)
      → script ≡ blocks ++ rest → RunSoFar e s blocks replies r a b t.times u.times p q → EndsBy blocks rest replies x y end → IsAsked (length blocks) end t.times v.times
      → IsSharedRun e s script (outsides a x t) (outsides b y v) p q end
  ended script blocks rest replies r a b x y t u v p q end all h ends clock = record {
    blocks = blocks;
    rest = rest;
    all = all;
    replies = replies;
    allowed = h.allowed;
    bears = h.bears;
    identities = h.identities;
    ends = ends;
    clock = clock;
    decays = λ d. h.decays;
    clears = λ d. h.clears;
    took = h.took;
  }

  asked_all : (n : ℕ) (end : Ended) (t u : Option (List ℕ)) → u ≡ option_map (times_asked n) t → IsAsked n end t u
  asked_all n end t u is = record { asked = n; times = is; once = inl refl }

  -- one block more was written
  pub written_block : (script : List (List Line)) (i : ℕ) (r q : RosterView) (marked lacking also too : Bool) (a b c : List SourceView) (t u d : Option (List ℕ)) (p k y : PassView) (x z v : SinkView) (block : List Line) (xs : List Reply)
      → slice_get script i ≡ Some block → WrittenSoFar e s (take i script) r marked lacking a b t u p k x z → d ≡ option_map times_after u → BlockRan e s r q block xs b c k y
      → also ≡ (marked || list_any is_mark xs) → too ≡ (lacking || list_any is_memory xs) → v.written ≡ behind z.written (block_text block xs) → z.faults ≤ v.faults
      → WrittenSoFar e s (take (i + 1) script) q also too a c t d p y x v
  written_block script i r q marked lacking also too a b c t u d p k y x z v block xs there h asked g m l whole faults =
      subst (λ (bs : List (List Line)). WrittenSoFar e s bs q also too a c t d p y x v) (sym (next_blocks script i block there)) (record {
        replies = h.replies ++ xs ∷ [];
        ran = run_more (take i script) h.replies r q a b c t u d p k y block xs h.ran asked g;
        written = written_more x.written z.written v.written (run_text (take i script) h.replies) (block_text block xs) h.written whole ∙ ap (behind x.written) (sym (text_more (take i script) h.replies block xs h.ran.many));
        faults = le_trans h.faults faults;
        marks = m ∙ ap (λ (b : Bool). b || list_any is_mark xs) h.marks ∙ sym (some_more is_mark h.replies xs);
        lacks = l ∙ ap (λ (b : Bool). b || list_any is_memory xs) h.lacks ∙ sym (some_more is_memory h.replies xs);
      })

  module _ (script : List (List Line)) (i : ℕ) (r q : RosterView) (marked lacking : Bool) (a b c : List SourceView) (t u d : ClockView) (p k y : PassView) (x z v : SinkView) (block : List Line) (xs : List Reply)
      (there : slice_get script i ≡ Some block) (h : WrittenSoFar e s (take i script) r marked lacking a b t.times u.times p k x z) (asked : d.times ≡ option_map times_after u.times)
      (g : BlockRan e s r q block xs b c k y) (front : IsFront z.written v.written (block_text block xs)) where
    cut_front : IsFront x.written v.written (run_text (take i script ++ block ∷ []) (h.replies ++ xs ∷ []))
    cut_front = subst (IsFront x.written v.written) (sym (text_more (take i script) h.replies block xs h.ran.many)) (front_more x.written z.written v.written (run_text (take i script) h.replies) (block_text block xs) h.written front)

    cut_run : (end : Ended) → EndsBy (take i script ++ block ∷ []) (drop (i + 1) script) (h.replies ++ xs ∷ []) x v end → IsSharedRun e s script (outsides a x t) (outsides c v d) p y end
    cut_run end ends =
        let ran = run_more (take i script) h.replies r q a b c t.times u.times d.times p k y block xs h.ran asked g in
        let all : script ≡ (take i script ++ block ∷ []) ++ drop (i + 1) script = sym (take-append-drop (i + 1) script) ∙ ap (λ (bs : List (List Line)). bs ++ drop (i + 1) script) (next_blocks script i block there) in
        ended script (take i script ++ block ∷ []) (drop (i + 1) script) (h.replies ++ xs ∷ []) q a c x v t d d p y end all ran ends (asked_all (length (take i script ++ block ∷ [])) end t.times d.times ran.clock)

    -- the sink failed
    pub cut_fault : Rose z.faults v.faults → IsSharedRun e s script (outsides a x t) (outsides c v d) p y SinkFault
    cut_fault rose = cut_run SinkFault (cut_front, rose_then x.faults z.faults v.faults h.faults rose)

    -- memory was wanted for a text
    pub cut_memory : IsSharedRun e s script (outsides a x t) (outsides c v d) p y NoMemory
    cut_memory = cut_run NoMemory cut_front

  -- memory was wanted for a block
  pub stopped : (script : List (List Line)) (i : ℕ) (r : RosterView) (marked lacking : Bool) (a b : List SourceView) (t u d : ClockView) (p q : PassView) (x y : SinkView)
      → WrittenSoFar e s (take i script) r marked lacking a b t.times u.times p q x y → d.times ≡ option_map times_after u.times → IsSharedRun e s script (outsides a x t) (outsides b y d) p q NoMemory
  stopped script i r marked lacking a b t u d p q x y h asked =
      ended script (take i script) (drop i script) h.replies r a b x y t u d p q NoMemory (sym (take-append-drop i script)) h.ran (front_all x.written y.written (run_text (take i script) h.replies) h.written)
      (record { asked = suc (length (take i script)); times = clock_more (length (take i script)) t.times u.times d.times h.ran.clock asked; once = inr (next (length (take i script)), refl) })
    where
      next : (n : ℕ) → suc n ≡ n + 1
      next n = omega arith

  -- a line was answered so that memory was wanted
  pub lacked : (script : List (List Line)) (i : ℕ) (r : RosterView) (marked lacking : Bool) (a b : List SourceView) (t u : ClockView) (p q : PassView) (x y : SinkView)
      → WrittenSoFar e s (take i script) r marked lacking a b t.times u.times p q x y → IsSharedRun e s script (outsides a x t) (outsides b y u) p q NoMemory
  lacked script i r marked lacking a b t u p q x y h =
      ended script (take i script) (drop i script) h.replies r a b x y t u u p q NoMemory (sym (take-append-drop i script)) h.ran (front_all x.written y.written (run_text (take i script) h.replies) h.written)
      (asked_all (length (take i script)) NoMemory t.times u.times h.ran.clock)

  pub finished : (script : List (List Line)) (i : ℕ) (r : RosterView) (marked lacking : Bool) (a b : List SourceView) (t u : ClockView) (p q : PassView) (x y : SinkView)
      → i ≡ length script → lacking ≡ false → WrittenSoFar e s (take i script) r marked lacking a b t.times u.times p q x y → IsSharedRun e s script (outsides a x t) (outsides b y u) p q (Done marked)
  finished script i r marked lacking a b t u p q x y is none h =
      let k = subst (λ (bs : List (List Line)). WrittenSoFar e s bs r marked lacking a b t.times u.times p q x y) (ap (λ (n : ℕ). take n script) is ∙ take-length script) h in
      ended script script [] k.replies r a b x y t u u p q (Done marked) (sym (append-nil script)) k.ran (refl, k.written, k.marks, sym k.lacks ∙ none) (asked_all (length script) (Done marked) t.times u.times k.ran.clock)

-- a block whose first line is no `mount` has none
pub no_mounts_in : (ls : List Line) (l : Line) → IsBlock ls → l ≡ get_or ls 0 l → ((name manifest : List ℕ) → l.command ≡ Mount name manifest → ⊥) → NoMounts ls
no_mounts_in [] l h is other = absurd h
no_mounts_in (m ∷ ls) l (inl shared) is other = no_mounts_of (m ∷ ls) shared
no_mounts_in (m ∷ ls) l (inr single) is other =
    (only m.command single.0 (λ name manifest e. other name manifest (ap (λ (n : Line). n.command) is ∙ e)), subst NoMounts (sym single.1) (tt {0}))
  where
    only : (c : Command) → is_shared c ≡ false → ((name manifest : List ℕ) → c ≡ Mount name manifest → ⊥) → is_mount c ≡ false
    only (Mount name manifest) h k = absurd (k name manifest refl)
    only Stats h k = refl
    only (Unmount name) h k = refl
    only (Clear name) h k = refl
    only Decay h k = refl
    only (Search name size text) h k = refl
    only (Fetch name segment doc) h k = refl
    only (Read name file at len) h k = refl

pub replies_length : (e : Cached) (c : CacheView) (w : ℕ) (r : RosterView) (block : List Line) (xs : List Reply) (before now : List SourceView) (p t : PassView) → BlockDid e c w r block xs before now p t → length xs ≡ length block
replies_length e c w r block xs before now p t did = answered_length (e.tells && c.about.tells) e.blobs r (marks t.view.gone) block xs did.answered

pub block_length : (e : Cached) (s : RunSetting) (r q : RosterView) (block : List Line) (xs : List Reply) (before now : List SourceView) (p t : PassView) → BlockRan e s r q block xs before now p t → length xs ≡ length block
block_length e s r q block xs before now p t h = allowed_length s (mounts_of r) block [] block xs h.allowed
