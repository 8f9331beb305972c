-- A run, block after block.
use Rattle.std.proofs.Common.{◌≡◌, ◌∙◌, ◌≤◌, ◌+◌, ℕ, zero, suc, Bool, false, List, [], ◌∷◌, ◌++◌, length, take, drop, sym, subst, ap, refl, arith}
use Rattle.std.specs.Prelude.{IsTrue, IfSome, Option, Some, None, option_map, ◌||◌, ◌&&◌, slice_get, slice_index_or}
use Rattle.std.specs.List.{list_any}
use Rattle.std.proofs.Math.Nat.{le_refl, le_trans}
use Rattle.std.proofs.Math.Seq.{take-length}
use Rattle.std.proofs.lemmas.List.{append_assoc, append-nil, take_more, take-append-drop}
use Rattle.std.proofs.lemmas.List.Folds.{list_any-append}
use Rattle.std.proofs.lemmas.Option.{get_or_from_slice_get, slice_get_within}
use Rattle.std.proofs.Math.Bool.{or-false}
use Rattle.byte_text.specs.Counts.{Rose}
use Rattle.cache_outside.specs.Clocks.{ClockView, first_time, times_after}
use Rattle.region_ranges.specs.declared.keys.Config.{Config}
use Rattle.cache_outside.specs.Listing.{Listing}
use Rattle.cache_outside.specs.Sinks.{SinkView, behind}
use Rattle.cache_outside.specs.Sources.{SourceView}
use Rattle.index_mounts.specs.Rosters.{RosterView, no_mounts}
use Rattle.cache_door.specs.declared.hold.Hold.{Hold}
use Rattle.cache_door.specs.Doors.{hold_view}
use Rattle.cache_door.specs.Cores.{CoreView, all_tell, state_of}
use Rattle.cache_door.specs.Stays.{later_same, later_on}
use Rattle.mount_script.specs.declared.command.Command.{Command}
use Rattle.mount_script.specs.declared.command.Command.TheVariants.{Mount, Unmount, Clear, Decay, Stats, Search, Fetch, Read}
use Rattle.mount_script.specs.declared.command.Line.{Line}
use Rattle.mount_script.specs.declared.reply.Reply.{Reply}
use Rattle.mount_script.specs.declared.reply.Reply.TheVariants as reply
use Rattle.shard_replies.specs.ExpectedReplies.{Mounts, expected_reply}
use Rattle.script_run.specs.Mounting.{mounts_of, after_block, after_blocks, nothing_mounted}
use Rattle.script_run.specs.Allowed.{RunSetting, Allowed, AllowedFrom, AllowedBlock, AllowedRun, IsPlain, near_lines, faults_of, run_faults, Bears, is_mark, is_memory, some_reply}
use Rattle.script_run.specs.Texts.{block_text, run_text}
use Rattle.script_run.specs.Clocks.{times_asked}
use Rattle.script_run.specs.Counters.{all_replies}
use Rattle.script_run.specs.declared.sums.Sums.{Sums}
use Rattle.script_run.specs.declared.ended.Ended.{Ended}
use Rattle.script_run.specs.declared.ended.Ended.TheVariants.{Done, SinkFault, NoMemory}
use Rattle.script_run.specs.Lines.{Cached, no_sums}
use Rattle.script_run.specs.Blocks.{alone, IsIdle, IsNew, IsFirst, IsBlock, UnmountedIn, SumsLater, BlockRan, BlockStats, BlockWent, RunWent, point, StatsFit, RunSoFar, WrittenSoFar}
use Rattle.script_run.specs.Runs.{IsRun, IsFront, EndsBy, outside, core_seen}
use Rattle.script_run.proofs.Behind.{written_more, front_more, behind_nothing}
use Rattle.script_run.proofs.Blocks.{bears_none}
pub use Rattle.cache_door.specs.Good.{Good}
use Rattle.script_run.specs.Room.{OnceLaws}
use Rattle.script_run.proofs.Steps.{count_more}
use Rattle.script_run.proofs.Steps.{went_none, went_more}
use Rattle.script_run.proofs.RunBytes.{run_took}
use Rattle.script_run.proofs.Counts.{fit_more, fit_new, fit_rises, counters_rise}
use Rattle.blob_parts.specs.Reading.{rose_then}

-- ---- what is mounted matters only where it is told

plain_with : (s : RunSetting) (m n : Mounts) (c : Command) (x : Reply) → (IsTrue s.tells → m ≡ n) → IsPlain s m c x → IsPlain s n c x
plain_with s m n Stats x e h = h
plain_with s m n (Mount name manifest) x e h = λ t. h t ∙ ap (λ (k : Mounts). expected_reply s.blobs k (Mount name manifest)) (e t)
plain_with s m n (Unmount name) x e h = λ t. h t ∙ ap (λ (k : Mounts). expected_reply s.blobs k (Unmount name)) (e t)
plain_with s m n (Clear name) x e h = λ t. h t ∙ ap (λ (k : Mounts). expected_reply s.blobs k (Clear name)) (e t)
plain_with s m n Decay x e h = h
plain_with s m n (Search name size text) x e h = λ t. h t ∙ ap (λ (k : Mounts). expected_reply s.blobs k (Search name size text)) (e t)
plain_with s m n (Fetch name segment doc) x e h = λ t. h t ∙ ap (λ (k : Mounts). expected_reply s.blobs k (Fetch name segment doc)) (e t)
plain_with s m n (Read name file at len) x e h = λ t. h t ∙ ap (λ (k : Mounts). expected_reply s.blobs k (Read name file at len)) (e t)

allowed_with : (s : RunSetting) (m n : Mounts) (near : List Line) (c : Command) (x : Reply) → (IsTrue s.tells → m ≡ n) → Allowed s m near c x → Allowed s n near c x
allowed_with s m n near c reply.Fault e h = h
allowed_with s m n near c reply.Gone e h = h
allowed_with s m n near c reply.NoMemory e h = h
allowed_with s m n near c x e h = plain_with s m n c x e h

pub from_with : (s : RunSetting) (m n : Mounts) (block before ls : List Line) (xs : List Reply) → (IsTrue s.tells → m ≡ n) → AllowedFrom s m block before ls xs → AllowedFrom s n block before ls xs
from_with s m n block before [] [] e h = tt {0}
from_with s m n block before [] (x ∷ xs) e h = absurd h
from_with s m n block before (l ∷ ls) [] e h = absurd h
from_with s m n block before (l ∷ ls) (x ∷ xs) e h = (allowed_with s m n (near_lines s block before) l.command x e h.0, from_with s m n block (before ++ l ∷ []) ls xs e h.1)

pub some_replies : (s : RunSetting) (m : Mounts) (block : List Line) (xs : List Reply) → IsBlock block → AllowedBlock s m block xs → xs ≡ [] → ⊥
some_replies s m [] xs some h e = some
some_replies s m (l ∷ ls) [] some h e = h
some_replies s m (l ∷ ls) (x ∷ xs) some h e = absurd (cc)

-- ---- one block more

pub after_more : (blobs : Listing) (bs : List (List Line)) (xss : List (List Reply)) (b : List Line) (xs : List Reply) (m : Mounts) → length xss ≡ length bs
    → after_blocks blobs (bs ++ b ∷ []) (xss ++ xs ∷ []) m ≡ after_block blobs b xs (after_blocks blobs bs xss m)
after_more blobs [] [] b xs m e = refl
after_more blobs [] (ys ∷ xss) b xs m e = absurd (omega (arith, e))
after_more blobs (c ∷ bs) [] b xs m e = absurd (omega (arith, e))
after_more blobs (c ∷ bs) (ys ∷ xss) b xs m e = let less : length xss ≡ length bs = omega (arith, e) in after_more blobs bs xss b xs (after_block blobs c ys m) less

pub allowed_run : (s : RunSetting) (m : Mounts) (bs : List (List Line)) (xss : List (List Reply)) (b : List Line) (xs : List Reply)
    → AllowedRun s m bs xss → AllowedBlock s (after_blocks s.blobs bs xss m) b xs → AllowedRun s m (bs ++ b ∷ []) (xss ++ xs ∷ [])
allowed_run s m [] [] b xs h k = (k, tt {0})
allowed_run s m [] (ys ∷ xss) b xs h k = absurd h
allowed_run s m (c ∷ bs) [] b xs h k = absurd h
allowed_run s m (c ∷ bs) (ys ∷ xss) b xs h k = (h.0, allowed_run s (after_block s.blobs c ys m) bs xss b xs h.1 k)

pub faults_more : (w i : ℕ) (xss : List (List Reply)) (xs : List Reply) → run_faults w i (xss ++ xs ∷ []) ≡ run_faults w i xss + faults_of w i 0 xs
faults_more w i [] xs = omega arith
faults_more w i (ys ∷ xss) xs = let k = faults_more w i xss xs in omega (arith, k)

pub bears_add : (n k a b c : ℕ) → Bears n a b → Bears k b c → Bears (n + k) a c
bears_add n k a b c h g = omega (arith, h, g)

pub text_more : (bs : List (List Line)) (xss : List (List Reply)) (b : List Line) (xs : List Reply) → length xss ≡ length bs → run_text (bs ++ b ∷ []) (xss ++ xs ∷ []) ≡ run_text bs xss ++ block_text b xs
text_more [] [] b xs e = append-nil (block_text b xs)
text_more [] (ys ∷ xss) b xs e = absurd (omega (arith, e))
text_more (c ∷ bs) [] b xs e = absurd (omega (arith, e))
text_more (c ∷ bs) (ys ∷ xss) b xs e =
    let less : length xss ≡ length bs = omega (arith, e) in
    ap (λ (t : List ℕ). block_text c ys ++ t) (text_more bs xss b xs less) ∙ sym (append_assoc (block_text c ys) (run_text bs xss) (block_text b xs))

pub replies_more : (xss : List (List Reply)) (xs : List Reply) → all_replies (xss ++ xs ∷ []) ≡ all_replies xss ++ xs
replies_more [] xs = append-nil xs
replies_more (ys ∷ xss) xs = ap (λ (t : List Reply). ys ++ t) (replies_more xss xs) ∙ sym (append_assoc ys (all_replies xss) xs)

pub some_more : (f : Reply → Bool) (xss : List (List Reply)) (xs : List Reply) → some_reply f (xss ++ xs ∷ []) ≡ (some_reply f xss || list_any f xs)
some_more f xss xs = list_any-append (λ (block : List Reply). list_any f block) xss (xs ∷ []) ∙ ap (λ (b : Bool). some_reply f xss || b) (or-false (list_any f xs))

asked_more : (n : ℕ) (times : List ℕ) → times_asked n (times_after times) ≡ times_after (times_asked n times)
asked_more zero times = refl
asked_more (suc n) times = asked_more n (times_after times)

pub many_more : (xss : List (List Reply)) (xs : List Reply) → length (xss ++ xs ∷ []) ≡ suc (length xss)
many_more [] xs = refl
many_more (ys ∷ xss) xs = ap suc (many_more xss xs)

-- a clock that was not asked
pub not_asked : (o : Option (List ℕ)) → o ≡ option_map (times_asked 0) o
not_asked None = refl
not_asked (Some times) = refl

pub clock_more : (n : ℕ) (t u d : Option (List ℕ)) → u ≡ option_map (times_asked n) t → d ≡ option_map times_after u → d ≡ option_map (times_asked (suc n)) t
clock_more n t u d e f = f ∙ ap (option_map times_after) e ∙ by_cases t
  where
    by_cases : (o : Option (List ℕ)) → option_map times_after (option_map (times_asked n) o) ≡ option_map (times_asked (suc n)) o
    by_cases None = refl
    by_cases (Some times) = ap Some (sym (asked_more n times))

pub run_more : (tells frames : Bool) (blobs : Listing) (regions : ℕ) (done : List (List Line)) (replies : List (List Reply)) (r q : RosterView) (sums sums' : Sums) (a b c : SourceView) (t u d : Option (List ℕ))
    (v w y : CoreView) (block : List Line) (xs : List Reply) → all_tell v.cells ≡ frames → IsNew v → IsBlock block
    → RunSoFar (alone (tells && frames) blobs regions) done replies r sums a b t u v w → d ≡ option_map times_after u
    → BlockRan (alone (tells && all_tell w.cells) blobs regions) r q block xs b c w y → BlockStats w y sums sums' xs → SumsLater sums sums'
    → RunSoFar (alone (tells && frames) blobs regions) (done ++ block ∷ []) (replies ++ xs ∷ []) q sums' a c t d v y
run_more tells frames blobs regions done replies r q sums sums' a b c t u d v w y block xs told new some h asked g stats later =
    let same : all_tell w.cells ≡ frames = h.core.tell ∙ told in
    let s = alone (tells && frames) blobs regions in
    let P : Bool → Type 0 = λ f. BlockRan (alone (tells && f) blobs regions) r q block xs b c w y in
    let own : BlockRan s r q block xs b c w y = subst P same g in
    let m = after_blocks blobs done replies nothing_mounted in
    let Q : List Reply → Type 0 = λ rs. StatsFit y.policy sums' rs in
    record {
      many = many_more replies xs ∙ ap suc h.many ∙ sym (count_more done block);
      allowed = allowed_run s nothing_mounted done replies block xs h.allowed (from_with s (mounts_of r) m block [] block xs h.mounts own.allowed);
      mounts = λ k. own.mounts k ∙ ap (after_block blobs block xs) (h.mounts k) ∙ sym (after_more blobs done replies block xs nothing_mounted h.many);
      bears = subst (λ (n : ℕ). Bears n a.faults c.faults) (sym (faults_more 1 0 replies xs)) (bears_add (run_faults 1 0 replies) (faults_of 1 0 0 xs) a.faults b.faults c.faults h.bears own.bears);
      faults = le_trans h.faults own.faults;
      identity = own.identity ∙ h.identity;
      clock = clock_more (length done) t u d h.clock asked ∙ ap (λ (n : ℕ). option_map (times_asked n) t) (sym (count_more done block));
      core = later_on h.core own.core;
      idle = own.idle;
      unmounted = own.unmounted;
      stats = subst Q (sym (replies_more replies xs)) (fit_more w y sums sums' (all_replies replies) xs h.stats (counters_rise v w y sums sums' new h.core own.core later) stats (some_replies s (mounts_of r) block xs some own.allowed));
    }

-- ---- at the beginning, and at an end

pub run_new : (s : RunSetting) (r : RosterView) (sums : Sums) (a : SourceView) (t : Option (List ℕ)) (v : CoreView) → (IsTrue s.tells → mounts_of r ≡ nothing_mounted) → sums.fetched ≡ 0 → sums.direct ≡ 0
    → IsNew v → IsIdle v → UnmountedIn r [] v → RunSoFar s [] [] r sums a a t t v v
run_new s r sums a t v none fetched direct new idle unmounted = record {
  many = refl;
  allowed = tt {0};
  mounts = none;
  bears = bears_none a.faults;
  faults = le_refl a.faults;
  identity = refl;
  clock = not_asked t;
  core = later_same v;
  idle = idle;
  unmounted = unmounted;
  stats = fit_new v sums fetched direct new;
}

-- before the first block
pub started : {tells : Bool} {contents : ℕ → ℕ → List ℕ} (c : Cached) (s : RunSetting) (r : RosterView) (sums : Sums) (a : SourceView) (t : Option (List ℕ)) (v : CoreView) (x : SinkView) → r ≡ no_mounts → sums ≡ no_sums → IsNew v → v.config ≡ c.config → OnceLaws c.blobs → Good tells contents (state_of v)
    → WrittenSoFar c s [] r sums false false a a t t v v x x
started c s r sums a t v x e f new setting laws good = record {
  replies = [];
  ran = run_new s r sums a t v (λ k. ap mounts_of e) (ap (λ (n : Sums). n.fetched) f) (ap (λ (n : Sums). n.direct) f) new idle
      (subst (λ (q : RosterView). UnmountedIn q [] v) (sym e) (record { names = λ name m is gone. absurd (cc); numbers = λ n past. new.mounts n }));
  went = subst (λ (n : Sums). RunWent c [] [] r t (point a v no_sums) (point a v n)) (sym f)
      (went_none c r t (point a v no_sums) e (subst (λ (g : Config). IsFirst g (state_of v)) setting new.first) laws good);
  written = behind_nothing x.written;
  faults = le_refl x.faults;
  marks = refl;
  lacks = refl;
}
  where
    idle : IsIdle v
    idle = ap (λ (hs : List (Option Hold)). hold_view (slice_index_or hs 0 None)) new.idle

pub allowed_length : (s : RunSetting) (m : Mounts) (block before ls : List Line) (xs : List Reply) → AllowedFrom s m block before ls xs → length xs ≡ length ls
allowed_length s m block before [] [] h = refl
allowed_length s m block before [] (x ∷ xs) h = absurd h
allowed_length s m block before (l ∷ ls) [] h = absurd h
allowed_length s m block before (l ∷ ls) (x ∷ xs) h = ap suc (allowed_length s m block (before ++ l ∷ []) ls xs h.1)

pub block_length : (s : RunSetting) (r q : RosterView) (block : List Line) (xs : List Reply) (a b : SourceView) (v w : CoreView) → BlockRan s r q block xs a b v w → length xs ≡ length block
block_length s r q block xs a b v w h = allowed_length s (mounts_of r) block [] block xs h.allowed

pub front_all : (old now : Option (List ℕ)) (text : List ℕ) → now ≡ behind old text → IsFront old now text
front_all old now text h = (length text, h ∙ ap (behind old) (sym (take-length text)))

pub next_blocks : (bs : List (List Line)) (i : ℕ) (b : List Line) → slice_get bs i ≡ Some b → take (i + 1) bs ≡ take i bs ++ b ∷ []
next_blocks bs i b h = take_more bs i b (slice_get_within bs i b h) ∙ ap (λ (c : List Line). take i bs ++ c ∷ []) (get_or_from_slice_get bs i b b h)

pub ended : (e : Cached) (s : RunSetting) (script blocks rest : List (List Line)) (replies : List (List Reply)) (r : RosterView) (sums : Sums) (a b : SourceView) (x y : SinkView) (t u : ClockView) (v w : CoreView) (end : Ended)
    → script ≡ blocks ++ rest → RunSoFar s blocks replies r sums a b t.times u.times v w → RunWent e blocks replies r t.times (point a v no_sums) (point b w sums) → EndsBy blocks rest replies x y end
    → IsRun e s script (outside a x t) (outside b y u) (core_seen v w) end
ended e s script blocks rest replies r sums a b x y t u v w end all h went ends = record {
  blocks = blocks;
  rest = rest;
  all = all;
  replies = replies;
  allowed = h.allowed;
  bears = h.bears;
  identity = h.identity;
  ends = ends;
  clock = h.clock;
  stats = record { rise = fit_rises w.policy sums (all_replies replies) h.stats; below = h.stats.below; last = λ d. h.stats.last };
  took = λ told. run_took e blocks replies r a b v w sums x y t u told went;
}

-- one block more was written
pub written_block : (e : Cached) (now : ℕ) (tells frames : Bool) (blobs : Listing) (regions : ℕ) (script : List (List Line)) (i : ℕ) (r q : RosterView) (sums sums' : Sums) (marked lacking also too : Bool) (a b c : SourceView) (t u d : Option (List ℕ))
    (v w y : CoreView) (x k z : SinkView) (block : List Line) (xs : List Reply) → all_tell v.cells ≡ frames → IsNew v → IsBlock block → slice_get script i ≡ Some block
    → WrittenSoFar e (alone (tells && frames) blobs regions) (take i script) r sums marked lacking a b t u v w x k → d ≡ option_map times_after u → IfSome u (λ ts. now ≡ first_time ts)
    → BlockRan (alone (tells && all_tell w.cells) blobs regions) r q block xs b c w y → BlockStats w y sums sums' xs → SumsLater sums sums' → BlockWent e now r q block xs (point b w sums) (point c y sums')
    → also ≡ (marked || list_any is_mark xs) → too ≡ (lacking || list_any is_memory xs) → z.written ≡ behind k.written (block_text block xs) → k.faults ≤ z.faults
    → WrittenSoFar e (alone (tells && frames) blobs regions) (take (i + 1) script) q sums' also too a c t d v y x z
written_block e now tells frames blobs regions script i r q sums sums' marked lacking also too a b c t u d v w y x k z block xs told new some there h asked answered g stats later went m l whole faults =
    let s = alone (tells && frames) blobs regions in
    let P : List (List Line) → Type 0 = λ bs. WrittenSoFar e s bs q sums' also too a c t d v y x z in
    subst P (sym (next_blocks script i block there)) (record {
      replies = h.replies ++ xs ∷ [];
      ran = run_more tells frames blobs regions (take i script) h.replies r q sums sums' a b c t u d v w y block xs told new some h.ran asked g stats later;
      went = went_more e (take i script) h.replies r q t u (point a v no_sums) (point b w sums) (point c y sums') now block xs h.went h.ran.clock answered went;
      written = written_more x.written k.written z.written (run_text (take i script) h.replies) (block_text block xs) h.written whole ∙ ap (behind x.written) (sym (text_more (take i script) h.replies block xs h.ran.many));
      faults = le_trans h.faults faults;
      marks = m ∙ ap (λ (b : Bool). b || list_any is_mark xs) h.marks ∙ sym (some_more is_mark h.replies xs);
      lacks = l ∙ ap (λ (b : Bool). b || list_any is_memory xs) h.lacks ∙ sym (some_more is_memory h.replies xs);
    })

module _ (e : Cached) (now : ℕ) (tells frames : Bool) (blobs : Listing) (regions : ℕ) (script : List (List Line)) (i : ℕ) (r q : RosterView) (sums sums' : Sums) (marked lacking : Bool) (a b c : SourceView) (t u d : ClockView)
    (v w y : CoreView) (x k z : SinkView) (block : List Line) (xs : List Reply) (told : all_tell v.cells ≡ frames) (new : IsNew v) (some : IsBlock block) (there : slice_get script i ≡ Some block)
    (h : WrittenSoFar e (alone (tells && frames) blobs regions) (take i script) r sums marked lacking a b t.times u.times v w x k) (asked : d.times ≡ option_map times_after u.times)
    (answered : IfSome u.times (λ ts. now ≡ first_time ts)) (g : BlockRan (alone (tells && all_tell w.cells) blobs regions) r q block xs b c w y) (stats : BlockStats w y sums sums' xs) (later : SumsLater sums sums')
    (went : BlockWent e now r q block xs (point b w sums) (point c y sums'))
    (front : IsFront k.written z.written (block_text block xs)) where
  cut_front : IsFront x.written z.written (run_text (take i script ++ block ∷ []) (h.replies ++ xs ∷ []))
  cut_front = subst (IsFront x.written z.written) (sym (text_more (take i script) h.replies block xs h.ran.many)) (front_more x.written k.written z.written (run_text (take i script) h.replies) (block_text block xs) h.written front)

  cut_run : (end : Ended) → EndsBy (take i script ++ block ∷ []) (drop (i + 1) script) (h.replies ++ xs ∷ []) x z end
      → IsRun e (alone (tells && frames) blobs regions) script (outside a x t) (outside c z d) (core_seen v y) end
  cut_run end ends =
      let s = alone (tells && frames) blobs regions in
      let ran = run_more tells frames blobs regions (take i script) h.replies r q sums sums' a b c t.times u.times d.times v w y block xs told new some h.ran asked g stats later in
      let all : script ≡ (take i script ++ block ∷ []) ++ drop (i + 1) script = sym (take-append-drop (i + 1) script) ∙ ap (λ (bs : List (List Line)). bs ++ drop (i + 1) script) (next_blocks script i block there) in
      let more = went_more e (take i script) h.replies r q t.times u.times (point a v no_sums) (point b w sums) (point c y sums') now block xs h.went h.ran.clock answered went in
      ended e s script (take i script ++ block ∷ []) (drop (i + 1) script) (h.replies ++ xs ∷ []) q sums' a c x z t d v y end all ran more ends

  -- the sink failed
  pub cut_fault : Rose k.faults z.faults → IsRun e (alone (tells && frames) blobs regions) script (outside a x t) (outside c z d) (core_seen v y) SinkFault
  cut_fault rose = cut_run SinkFault (cut_front, rose_then x.faults k.faults z.faults h.faults rose)

  -- memory was wanted for a text
  pub cut_memory : IsRun e (alone (tells && frames) blobs regions) script (outside a x t) (outside c z d) (core_seen v y) NoMemory
  cut_memory = cut_run NoMemory cut_front

-- memory was wanted before a block began
pub stopped : (e : Cached) (s : RunSetting) (script : List (List Line)) (i : ℕ) (r : RosterView) (sums : Sums) (marked lacking : Bool) (a b : SourceView) (t u : ClockView) (v w : CoreView) (x y : SinkView)
    → WrittenSoFar e s (take i script) r sums marked lacking a b t.times u.times v w x y → IsRun e s script (outside a x t) (outside b y u) (core_seen v w) NoMemory
stopped e s script i r sums marked lacking a b t u v w x y h =
    ended e s script (take i script) (drop i script) h.replies r sums a b x y t u v w NoMemory (sym (take-append-drop i script)) h.ran h.went (front_all x.written y.written (run_text (take i script) h.replies) h.written)

pub whole : (script : List (List Line)) (i : ℕ) → i ≡ length script → take i script ≡ script
whole script i e = ap (λ (n : ℕ). take n script) e ∙ take-length script

pub finished : (e : Cached) (s : RunSetting) (script : List (List Line)) (i : ℕ) (r : RosterView) (sums : Sums) (marked lacking : Bool) (a b : SourceView) (t u : ClockView) (v w : CoreView) (x y : SinkView)
    → i ≡ length script → lacking ≡ false
    → WrittenSoFar e s (take i script) r sums marked lacking a b t.times u.times v w x y → IsRun e s script (outside a x t) (outside b y u) (core_seen v w) (Done marked)
finished e s script i r sums marked lacking a b t u v w x y end none h =
    let P : List (List Line) → Type 0 = λ bs. WrittenSoFar e s bs r sums marked lacking a b t.times u.times v w x y in
    let k = subst P (whole script i end) h in
    ended e s script script [] k.replies r sums a b x y t u v w (Done marked) (sym (append-nil script)) k.ran k.went (refl, k.written, k.marks, sym k.lacks ∙ none)
