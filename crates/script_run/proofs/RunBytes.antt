-- The bytes that a run took, and the replies of its `stats` lines.
use Rattle.std.proofs.Common.{◌≡◌, ◌∙◌, ◌≤◌, ◌-◌, ◌^◌, ℕ, zero, suc, true, false, List, [], ◌∷◌, length, take, sym, subst, ap, ap₂, refl, inl, inr, arith}
use Rattle.std.specs.Prelude.{IsTrue, Some, min, slice_get}
use Rattle.cache_outside.specs.Clocks.{ClockView}
use Rattle.cache_outside.specs.Sinks.{SinkView}
use Rattle.cache_outside.specs.Sources.{SourceView}
use Rattle.cache_policy.specs.Policy.{mapped_len}
use Rattle.index_mounts.specs.Rosters.{RosterView, no_mounts}
use Rattle.cache_door.specs.Cores.{CoreView, state_of, all_faults}
use Rattle.cache_door.specs.Machine.{State}
use Rattle.cache_reader.specs.Alone.{Outcome, then_outcome}
use Rattle.mount_script.specs.declared.command.Command.TheVariants.{Mount, Stats}
use Rattle.mount_script.specs.declared.command.Line.{Line}
use Rattle.mount_script.specs.declared.reply.Reply.{Reply}
use Rattle.mount_script.specs.declared.reply.Reply.TheVariants as reply
use Rattle.script_run.specs.declared.sums.Sums.{Sums}
use Rattle.script_run.specs.Allowed.{is_memory, some_reply}
use Rattle.script_run.specs.Lines.{Cached, no_sums, is_shared}
use Rattle.script_run.specs.RunTakes.{NamedMounts, none_named, block_outcome, blocks_outcome, named_behind_block, some_search, stats_behind}
use Rattle.script_run.specs.Runs.{outside, core_seen, StatsTold, RunTook}
use Rattle.script_run.specs.Blocks.{Point, point, stats_of, BlockWent, BlocksWent, RunWent}
use Rattle.script_run.proofs.Counted.{blocks_counted, last_counted}
use Rattle.script_run.proofs.Acts.{taken_once}
use Rattle.script_run.proofs.Exact.{Quiet, Small, Did, blocks_exact}

-- ---- behind some first blocks

-- a block of a run, and the blocks before it
record FrontWent (e : Cached) (ns : List ℕ) (r : RosterView) (bs : List (List Line)) (gss : List (List Reply)) (i : ℕ) (block : List Line) (replies : List Reply) (x y : Point) : Type 0 where
  t : RosterView
  q : RosterView
  now : ℕ
  z : Point
  behind : Point
  front : BlocksWent e (take i ns) r t (take i bs) (take i gss) x z
  here : BlockWent e now t q block replies z behind
  faults : z.source.faults ≤ y.source.faults
  frames : all_faults z.core.cells ≤ all_faults y.core.cells

front_went : (e : Cached) (ns : List ℕ) (r q : RosterView) (bs : List (List Line)) (gss : List (List Reply)) (i : ℕ) (block : List Line) (replies : List Reply) (x y : Point) → IsTrue e.tells
    → slice_get bs i ≡ Some block → slice_get gss i ≡ Some replies → BlocksWent e ns r q bs gss x y → FrontWent e ns r bs gss i block replies x y
front_went e ns r q [] gss i block replies x y told at also h = absurd (cc)
front_went e ns r q (b ∷ bs) [] i block replies x y told at also h = absurd (cc)
front_went e [] r q (b ∷ bs) (g ∷ gss) i block replies x y told at also h = absurd h
front_went e (n ∷ ns) r q (b ∷ bs) (g ∷ gss) zero block replies x y told at also h =
    let counting = (blocks_counted e (n ∷ ns) r q (b ∷ bs) (g ∷ gss) x y told h).counting in
    let same : b ≡ block = cc in
    let own : g ≡ replies = cc in
    record {
      t = r;
      q = h.0;
      now = n;
      z = x;
      behind = h.1;
      front = (refl, refl);
      here = subst (λ (ls : List Line). BlockWent e n r h.0 ls replies x h.1) same (subst (λ (gs : List Reply). BlockWent e n r h.0 b gs x h.1) own h.2);
      faults = counting.faults;
      frames = counting.frames;
    }
front_went e (n ∷ ns) r q (b ∷ bs) (g ∷ gss) (suc i) block replies x y told at also h =
    let f = front_went e ns h.0 q bs gss i block replies h.1 y told at also h.3 in
    record {
      t = f.t;
      q = f.q;
      now = f.now;
      z = f.z;
      behind = f.behind;
      front = (h.0, h.1, h.2, f.front);
      here = f.here;
      faults = f.faults;
      frames = f.frames;
    }

-- times of blocks that don't come are of no matter
more_times : (e : Cached) (i : ℕ) (ns : List ℕ) (m : NamedMounts) (bs : List (List Line)) (gss : List (List Reply)) (s : State)
    → blocks_outcome e (take i ns) m (take i bs) (take i gss) s ≡ blocks_outcome e ns m (take i bs) (take i gss) s
more_times e zero [] m bs gss s = refl
more_times e zero (n ∷ ns) m bs gss s = refl
more_times e (suc i) [] m bs gss s = refl
more_times e (suc i) (n ∷ ns) m [] gss s = refl
more_times e (suc i) (n ∷ ns) m (b ∷ bs) [] s = refl
more_times e (suc i) (n ∷ ns) m (b ∷ bs) (g ∷ gss) s =
    let first = block_outcome e n m b s in
    ap (λ (o : Outcome). then_outcome first o) (more_times e i ns (named_behind_block e.blobs b g m) bs gss first.state)

-- ---- a `stats` line

-- a `stats` line is answered by what is counted when its block begins
stats_given : (e : Cached) (now : ℕ) (r q : RosterView) (l : Line) (given : Reply) (x y : Point) → l.command ≡ Stats → BlockWent e now r q (l ∷ []) (given ∷ []) x y → given ≡ stats_of x.core.policy x.sums
stats_given e now r q l given x y is (inl h) =
    let shared : is_shared l.command ≡ true = h.shared.0 in
    let not : is_shared l.command ≡ false = ap is_shared is in
    absurd (cc)
stats_given e now r q l given x y is (inr (inl h)) =
    let same : l ≡ record { number = h.number; command = Mount h.name h.manifest } = first_same l _ h.line in
    let command : Mount h.name h.manifest ≡ Stats = sym (ap (λ (k : Line). k.command) same) ∙ is in
    absurd (cc)
  where
    first_same : (a b : Line) → a ∷ [] ≡ b ∷ [] → a ≡ b
    first_same a b k = cc
stats_given e now r q l given x y is (inr (inr h)) = first_same given _ h.reply_is
  where
    first_same : (a b : Reply) → a ∷ [] ≡ b ∷ [] → a ≡ b
    first_same a b k = cc

given_behind : (w : Outcome) (x y : Point) (given : Reply) → x.sums.fetched ≡ 0 → x.sums.direct ≡ 0 → Did w x y → given ≡ stats_of y.core.policy y.sums → given ≡ stats_behind w
given_behind w x y given no_fetched no_direct did is =
    let fetched : y.sums.fetched ≡ min w.fetched (2 ^ 64 - 1) = omega (arith, did.fetched, no_fetched) in
    let direct : y.sums.direct ≡ min w.direct (2 ^ 64 - 1) = omega (arith, did.direct, no_direct) in
    is ∙ by_parts (state_of y.core) w.state y.sums.fetched (min w.fetched (2 ^ 64 - 1)) y.sums.direct (min w.direct (2 ^ 64 - 1)) did.state fetched direct
  where
    by_parts : (s t : State) (f g d n : ℕ) → s ≡ t → f ≡ g → d ≡ n
        → reply.Stats (length s.policy.free) (mapped_len s.policy) (length s.policy.leaving) s.policy.evictions s.policy.promotions s.policy.demotions f d
        ≡ reply.Stats (length t.policy.free) (mapped_len t.policy) (length t.policy.leaving) t.policy.evictions t.policy.promotions t.policy.demotions g n
    by_parts s t f g d n a b c =
        ap (λ (u : State). reply.Stats (length u.policy.free) (mapped_len u.policy) (length u.policy.leaving) u.policy.evictions u.policy.promotions u.policy.demotions f d) a
        ∙ ap₂ (λ (k m : ℕ). reply.Stats (length t.policy.free) (mapped_len t.policy) (length t.policy.leaving) t.policy.evictions t.policy.promotions t.policy.demotions k m) b c

-- ---- the whole run

module _ (e : Cached) (blocks : List (List Line)) (replies : List (List Reply)) (r : RosterView) (a b : SourceView) (v w : CoreView) (sums : Sums) (x y : SinkView) (t u : ClockView) (told : IsTrue e.tells)
    (h : RunWent e blocks replies r t.times (point a v no_sums) (point b w sums)) where
  abbrev before : Point
  before = point a v no_sums

  one : length v.holds ≡ 1
  one = ap (λ (s : State). length s.holds) h.first.2

  small : Small before
  small = record { fetched = omega arith; direct = omega arith }

  stats_told : (i : ℕ) (l : Line) (given : Reply) → slice_get blocks i ≡ Some (l ∷ []) → l.command ≡ Stats → slice_get replies i ≡ Some (given ∷ [])
      → StatsTold e h.times (take i blocks) (take i replies) given (outside a x t) (outside b y u) (core_seen v w)
  stats_told i l given at is also =
      let f = front_went e h.times no_mounts r blocks replies i (l ∷ []) (given ∷ []) before (point b w sums) told at also h.went in
      let counting = (blocks_counted e (take i h.times) no_mounts f.t (take i blocks) (take i replies) before f.z told f.front).counting in
      record {
        source_faults = f.z.source.faults;
        frame_faults = all_faults f.z.core.cells;
        source = (counting.faults, f.faults);
        frames = (counting.frames, f.frames);
        exact = λ calm plain some.
            let quiet : Quiet (some_search (take i blocks)) (some_reply is_memory (take i replies)) before f.z =
            record { search = plain; memory = calm.memory; source = calm.source; frames = calm.frames } in
            let did = (blocks_exact e (take i h.times) no_mounts f.t (take i blocks) (take i replies) before f.z told some one small quiet f.front).did in
            given_behind (blocks_outcome e (take i h.times) none_named (take i blocks) (take i replies) (state_of v)) before f.z given refl refl did
            (stats_given e f.now f.t f.q l given f.z f.behind is f.here)
            ∙ ap stats_behind (more_times e i h.times none_named blocks replies (state_of v));
      }

  pub run_took : RunTook e blocks replies (outside a x t) (outside b y u) (core_seen v w)
  run_took =
      let counted = blocks_counted e h.times no_mounts r blocks replies before (point b w sums) told h.went in
      record {
        places = counted.places;
        taken = counted.took;
        counted = λ calm. last_counted e h.times no_mounts r blocks replies before (point b w sums) (length counted.places) h.went
            (λ f d. let sum = counted.counting.counted calm.memory calm.source calm.frames f d in omega (arith, sum));
        times = h.times;
        told = h.told;
        first = h.first;
        exact = λ calm plain some.
            (blocks_exact e h.times no_mounts r blocks replies before (point b w sums) told some one small
            (record { search = plain; memory = calm.memory; source = calm.source; frames = calm.frames }) h.went).took;
        once = λ calm none room.
            taken_once e h.laws h.times r blocks replies before (point b w sums) h.first.0 h.first.1 h.limits h.few told h.first.2 h.count
            (record { search = none; memory = calm.memory; source = calm.source; frames = calm.frames }) room h.went;
        stats = stats_told;
      }
