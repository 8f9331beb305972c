-- The lines of a block, one after another.
use Rattle.std.proofs.Common.{◌≡◌, ◌∙◌, ◌<◌, ◌≤◌, ◌+◌, ℕ, zero, suc, Bool, true, false, cond, List, [], ◌∷◌, ◌++◌, length, take, get_or, sym, subst, ap, ap₂, refl, inl, inr, arith, add-one, add-zero}
use Rattle.std.specs.Cmp.{first_so}
use Rattle.std.specs.Prelude.{IsTrue, Option, Some, None, option_map, ◌||◌, ◌&&◌, ◌⊎◌, ◌==◌, if◌then◌else◌}
use Rattle.std.specs.Str.{bytes_eq}
use Rattle.std.proofs.Math.Nat.{mod-one, le_refl, le_trans}
use Rattle.std.proofs.Math.Path.{fun_ext}
use Rattle.std.proofs.lemmas.List.{append_assoc, append-nil}
use Rattle.std.proofs.lemmas.List.Folds.{list_any-append}
use Rattle.std.proofs.lemmas.Bool.Decides.{Decides-eqb}
use Rattle.std.proofs.Math.Bool.{or-false, or-true}
use Rattle.byte_text.specs.Counts.{Rose}
use Rattle.cache_outside.specs.Listing.{Listing, manifest_number}
use Rattle.cache_outside.specs.Sources.{SourceView}
use Rattle.region_ranges.specs.declared.keys.Config.{Config}
use Rattle.blob_parts.specs.Takes.{SourceLater}
use Rattle.index_mounts.specs.Rosters.{MountView, RosterView, mounted, IsRoster}
use Rattle.cache_policy.specs.Policy.{PolicyView}
use Rattle.cache_door.specs.Machine.{is_gone}
use Rattle.cache_door.specs.Cores.{CoreView, state_of, all_tell, door_of, Later}
use Rattle.cache_door.specs.Doors.{DoorView}
use Rattle.cache_door.specs.Stays.{later_same, later_on}
use Rattle.cache_reader.specs.declared.report.Report.{Report}
use Rattle.cache_reader.specs.Going.{Moment}
use Rattle.mount_script.specs.declared.command.Command.{Command}
use Rattle.mount_script.specs.declared.command.Command.TheVariants.{Mount, Unmount, Clear, Decay, Stats, Search, Fetch, Read}
use Rattle.mount_script.specs.declared.command.Line.{Line}
use Rattle.mount_script.specs.declared.reply.Reply.{Reply}
use Rattle.mount_script.specs.declared.reply.Reply.TheVariants as reply
use Rattle.shard_replies.specs.ExpectedReplies.{Mounts, expected_reply, mount_reply, used_name}
use Rattle.script_run.specs.Mounting.{mounts_of, after_line, after_block, with_name}
use Rattle.script_run.specs.Allowed.{RunSetting, Allowed, AllowedFrom, IsPlain, IsStats, IsStatsReply, near_lines, reads_files, reads_source, unmounted_in, is_unmount_of, may_be_gone, faults_of, is_fault, Bears}
use Rattle.script_run.specs.Lines.{is_shared, is_mount, Cached, cached, IsAnswer, IsMarked, IsGone, HasKind, FilesKind, LineDoes}
use Rattle.script_run.specs.declared.sums.Sums.{Sums}
use Rattle.script_run.specs.MountLines.{MountKind, MountsOne, RosterGoes, MountDoes}
use Rattle.script_run.specs.Blocks.{alone, seen, IsIdle, UnmountedIn, forgets, forgets_any, Forgotten, NoStats, BlockStats, stats_of, AllShared, NoMounts, IsBlock, Kinds, LinesRan, BlockRan}
use Rattle.script_run.proofs.Rosters.{names_same, mounted_with}
use Rattle.simpletext_postings.proofs.Rising.{same_bytes}

-- ---- what a block takes out of a roster

forgets_more : (i : ℕ) (ls : List Line) (xs : List Reply) (l : Line) (x : Reply) (other : List ℕ) → l ≡ get_or ls i l → x ≡ get_or xs i x → i < length ls → i < length xs
    → forgets_any (take (i + 1) ls) (take (i + 1) xs) other ≡ (forgets_any (take i ls) (take i xs) other || forgets l.command x other)
forgets_more zero [] xs l x other e f h k = absurd (omega (arith, h))
forgets_more zero (m ∷ ls) [] l x other e f h k = absurd (omega (arith, k))
forgets_more zero (m ∷ ls) (y ∷ xs) l x other e f h k = or-false (forgets m.command y other) ∙ sym (ap₂ (λ (n : Line) (z : Reply). forgets n.command z other) e f)
forgets_more (suc i) [] xs l x other e f h k = absurd (omega (arith, h))
forgets_more (suc i) (m ∷ ls) [] l x other e f h k = absurd (omega (arith, k))
forgets_more (suc i) (m ∷ ls) (y ∷ xs) l x other e f h k =
    let fewer : i < length ls = omega (arith, h) in
    let also : i < length xs = omega (arith, k) in
    rw (add-one) (ap (λ (b : Bool). forgets m.command y other || b) (rw (add-one) at (forgets_more i ls xs l x other e f fewer also))
    ∙ together (forgets m.command y other) (forgets_any (take i ls) (take i xs) other) (forgets l.command x other))
  where
    together : (a b c : Bool) → (a || (b || c)) ≡ ((a || b) || c)
    together true b c = refl
    together false b c = refl

pub cond_or : {X : Type 0} (a b : Bool) (o : Option X) → cond b None (cond a None o) ≡ cond (a || b) None o
cond_or true true o = refl
cond_or true false o = refl
cond_or false b o = refl

-- one line more of a block is forgotten
pub forgotten_more : (i : ℕ) (ls : List Line) (xs : List Reply) (l : Line) (x : Reply) (other : List ℕ) → l ≡ get_or ls i l → x ≡ get_or xs i x → i < length ls → i < length xs
    → (r q t : RosterView) → mounted other q ≡ (if forgets_any (take i ls) (take i xs) other then None else mounted other r)
    → mounted other t ≡ (if forgets (get_or ls i l).command x other then None else mounted other q)
    → mounted other t ≡ (if forgets_any (take (i + 1) ls) (take (i + 1) xs) other then None else mounted other r)
forgotten_more i ls xs l x other e f h k r q t before now =
    now ∙ ap (λ (n : Line). cond (forgets n.command x other) None (mounted other q)) (sym e) ∙ ap (λ (o : Option MountView). cond (forgets l.command x other) None o) before
    ∙ cond_or (forgets_any (take i ls) (take i xs) other) (forgets l.command x other) (mounted other r)
    ∙ ap (λ (b : Bool). cond b None (mounted other r)) (sym (forgets_more i ls xs l x other e f h k))

-- ---- the counts of faults

one_more_fault : (k : ℕ) (xs : List Reply) (x : Reply) → faults_of 1 0 k (xs ++ x ∷ []) ≡ faults_of 1 0 k xs + (if is_fault x then 1 else 0)
one_more_fault k [] x = rw (mod-one k) (omega arith)
one_more_fault k (y ∷ xs) x = rw (mod-one k, one_more_fault (k + 1) xs x) (omega arith)

pub bears_one : (n before mid now : ℕ) → Bears n before mid → Rose mid now → Bears (n + 1) before now
bears_one n before mid now b r = omega (arith, b, r)

pub bears_on : (n before mid now : ℕ) → Bears n before mid → mid ≤ now → Bears n before now
bears_on n before mid now b r = omega (arith, b, r)

pub bears_more : (xs : List Reply) (x : Reply) (before mid now : ℕ) → Bears (faults_of 1 0 0 xs) before mid → (x ≡ reply.Fault → Rose mid now) → mid ≤ now → Bears (faults_of 1 0 0 (xs ++ x ∷ [])) before now
bears_more xs x before mid now b r later = rw (one_more_fault 0 xs x) (by_cases x r)
  where
    as_before : Bears (faults_of 1 0 0 xs + 0) before now
    as_before = rw (add-zero (faults_of 1 0 0 xs)) (bears_on (faults_of 1 0 0 xs) before mid now b later)

    by_cases : (y : Reply) → (y ≡ reply.Fault → Rose mid now) → Bears (faults_of 1 0 0 xs + (if is_fault y then 1 else 0)) before now
    by_cases reply.Fault h = bears_one (faults_of 1 0 0 xs) before mid now b (h refl)
    by_cases y h = as_before

pub bears_none : (n : ℕ) → Bears (faults_of 1 0 0 []) n n
bears_none n = omega arith

-- ---- one line more

allowed_more : (s : RunSetting) (m : Mounts) (block before ls : List Line) (xs : List Reply) (l : Line) (x : Reply)
    → AllowedFrom s m block before ls xs → Allowed s m (near_lines s block (before ++ ls)) l.command x → AllowedFrom s m block before (ls ++ l ∷ []) (xs ++ x ∷ [])
allowed_more s m block before [] [] l x h one = (rw (append-nil before) at one, tt {0})
allowed_more s m block before [] (y ∷ xs) l x h one = absurd h
allowed_more s m block before (k ∷ ls) [] l x h one = absurd h
allowed_more s m block before (k ∷ ls) (y ∷ xs) l x h one =
    (h.0, allowed_more s m block (before ++ k ∷ []) ls xs l x h.1 (rw (sym (append_assoc before (k ∷ []) ls)) at one))

kinds_more : (r : RosterView) (ls : List Line) (xs : List Reply) (l : Line) (x : Reply) → Kinds r ls xs → HasKind l.command (mounted (used_name l.command) r) x → Kinds r (ls ++ l ∷ []) (xs ++ x ∷ [])
kinds_more r [] [] l x h one = (one, tt {0})
kinds_more r [] (y ∷ xs) l x h one = absurd h
kinds_more r (k ∷ ls) [] l x h one = absurd h
kinds_more r (k ∷ ls) (y ∷ xs) l x h one = (h.0, kinds_more r ls xs l x h.1 one)

pub source_read : (c : Command) → IsTrue (reads_files c) → IsTrue (reads_source c)
source_read (Mount name manifest) h = refl
source_read (Unmount name) h = h
source_read (Clear name) h = h
source_read Decay h = h
source_read Stats h = h
source_read (Search name size text) h = h
source_read (Fetch name segment doc) h = h
source_read (Read name file at len) h = h

plain_told : (s : RunSetting) (m : Mounts) (c : Command) (x : Reply) → is_shared c ≡ true → (IsTrue s.tells → x ≡ expected_reply s.blobs m c) → IsPlain s m c x
plain_told s m (Mount name manifest) x h k = absurd (cc)
plain_told s m (Unmount name) x h k = k
plain_told s m (Clear name) x h k = k
plain_told s m Decay x h k = k
plain_told s m Stats x h k = absurd (cc)
plain_told s m (Search name size text) x h k = k
plain_told s m (Fetch name segment doc) x h k = k
plain_told s m (Read name file at len) x h k = k

line_allowed : (s : RunSetting) (m : Mounts) (near : List Line) (c : Command) (x : Reply) → is_shared c ≡ true → IsAnswer s.tells (expected_reply s.blobs m c) x
    → (x ≡ reply.Fault → IsTrue (reads_files c)) → (x ≡ reply.Gone → IsTrue (may_be_gone near c)) → Allowed s m near c x
line_allowed s m near c reply.Fault shared h fault gone = source_read c (fault refl)
line_allowed s m near c reply.Gone shared h fault gone = gone refl
line_allowed s m near c reply.NoMemory shared h fault gone = tt {0}
line_allowed s m near c x shared h fault gone = plain_told s m c x shared h

may_gone : (near : List Line) (c : Command) → IsTrue (reads_files c) → unmounted_in near (used_name c) ≡ true → IsTrue (may_be_gone near c)
may_gone near (Mount name manifest) h k = absurd (cc)
may_gone near (Unmount name) h k = absurd (cc)
may_gone near (Clear name) h k = absurd (cc)
may_gone near Decay h k = absurd (cc)
may_gone near Stats h k = absurd (cc)
may_gone near (Search name size text) h k = k
may_gone near (Fetch name segment doc) h k = k
may_gone near (Read name file at len) h k = k

-- an unmount of a mount with this number
pub record Unmounts (r : RosterView) (c : Command) (n : ℕ) : Type 0 where
  pub name : List ℕ
  pub mount : MountView
  pub command : c ≡ Unmount name
  pub there : mounted name r ≡ Some mount
  pub number : n ≡ mount.mount

-- a number that is unmounted behind a line was so before it, or the line is an unmount of its mount
gone_by : (r : RosterView) (e : Cached) (now : ℕ) (c : Command) (o : Option MountView) (x : Reply) (report : Report) (y z : Moment) (n : ℕ) → is_shared c ≡ true → mounted (used_name c) r ≡ o
    → LineDoes e now c o x report y z → z.door.unmounted n ≡ true → (y.door.unmounted n ≡ true) ⊎ Unmounts r c n
gone_by r e now (Mount name manifest) o x report y z n shared is does gone = absurd (cc)
gone_by r e now Stats o x report y z n shared is does gone = absurd (cc)
gone_by r e now Decay o x report y z n shared is does gone = inl (sym (does.mounts n) ∙ gone)
gone_by r e now (Unmount name) None x report y z n shared is does gone = inl (ap (λ (t : Moment). t.door.unmounted n) (sym does.1) ∙ gone)
gone_by r e now (Clear name) None x report y z n shared is does gone = inl (ap (λ (t : Moment). t.door.unmounted n) (sym does.1) ∙ gone)
gone_by r e now (Search name size text) None x report y z n shared is does gone = inl (ap (λ (t : Moment). t.door.unmounted n) (sym does.1) ∙ gone)
gone_by r e now (Fetch name segment doc) None x report y z n shared is does gone = inl (ap (λ (t : Moment). t.door.unmounted n) (sym does.1) ∙ gone)
gone_by r e now (Read name file at len) None x report y z n shared is does gone = inl (ap (λ (t : Moment). t.door.unmounted n) (sym does.1) ∙ gone)
gone_by r e now (Clear name) (Some m) x report y z n shared is does gone = inl (sym (does.mounts n) ∙ gone)
gone_by r e now (Search name size text) (Some m) x report y z n shared is does gone = inl (ap (λ (f : ℕ → Bool). f n) (sym does.through.goes.unmounted) ∙ gone)
gone_by r e now (Fetch name segment doc) (Some m) x report y z n shared is does gone = inl (ap (λ (f : ℕ → Bool). f n) (sym does.through.goes.unmounted) ∙ gone)
gone_by r e now (Read name file at len) (Some m) x report y z n shared is does gone = inl (ap (λ (f : ℕ → Bool). f n) (sym does.through.goes.unmounted) ∙ gone)
gone_by r e now (Unmount name) (Some m) x report y z n shared is does gone = by_number (n == m.mount) refl
  where
    by_number : (b : Bool) → (n == m.mount) ≡ b → (y.door.unmounted n ≡ true) ⊎ Unmounts r (Unmount name) n
    by_number true k = inr (record { name = name; mount = m; command = refl; there = is; number = (Decides-eqb n m.mount).0 k })
    by_number false k = inl (ap (λ (b : Bool). cond b true (y.door.unmounted n)) (sym k) ∙ sym (does.mounts n) ∙ gone)

-- ---- the step

module _ (tells : Bool) (blobs : Listing) (r : RosterView) (kept : IsRoster tells blobs r) (done : List Line) (l : Line) (v w : CoreView) (before : UnmountedIn r done v)
    (by : (n : ℕ) → is_gone (state_of w) n ≡ true → (is_gone (state_of v) n ≡ true) ⊎ Unmounts r l.command n) where
  more_names : unmounted_in (done ++ l ∷ []) ≡ (λ name. unmounted_in done name || is_unmount_of name l.command)
  more_names = fun_ext (λ name. list_any-append (λ (k : Line). is_unmount_of name k.command) done (l ∷ []) ∙ ap (λ (b : Bool). unmounted_in done name || b) (or-false (is_unmount_of name l.command)))

  found_before : (name : List ℕ) → unmounted_in done name ≡ true → unmounted_in (done ++ l ∷ []) name ≡ true
  found_before name h = ap (λ (f : List ℕ → Bool). f name) more_names ∙ ap (λ (b : Bool). b || is_unmount_of name l.command) h

  found_here : (name : List ℕ) → is_unmount_of name l.command ≡ true → unmounted_in (done ++ l ∷ []) name ≡ true
  found_here name h = ap (λ (f : List ℕ → Bool). f name) more_names ∙ ap (λ (b : Bool). unmounted_in done name || b) h ∙ or-true (unmounted_in done name)

  named_gone : (name : List ℕ) (m : MountView) → mounted name r ≡ Some m → (is_gone (state_of v) m.mount ≡ true) ⊎ Unmounts r l.command m.mount → unmounted_in (done ++ l ∷ []) name ≡ true
  named_gone name m is (inl gone) = found_before name (before.names name m is gone)
  named_gone name m is (inr u) =
      let same : u.name ≡ name = kept.once u.name name u.mount m u.there is (sym u.number) in
      found_here name (ap (is_unmount_of name) u.command ∙ ap (λ (n : List ℕ). bytes_eq n name) same ∙ names_same name)

  not_gone : (n : ℕ) (b : Bool) → r.made ≤ n → is_gone (state_of w) n ≡ b → b ≡ false
  not_gone n false past is = refl
  not_gone n true past is = elim (by n is) [
    | inl gone ↦ let none = before.numbers n past in absurd (cc)
    | inr u ↦ let own = kept.mounts u.name u.mount u.there in absurd (omega (arith, own.below, u.number, past))
  ]

  pub unmounted_more : UnmountedIn r (done ++ l ∷ []) w
  unmounted_more = record {
    names = λ name m is gone. named_gone name m is (by m.mount gone);
    numbers = λ n past. not_gone n (is_gone (state_of w) n) past refl;
  }

-- ---- a block

no_unmount : (r : RosterView) (c : Command) (n : ℕ) → IsTrue (reads_files c) → Unmounts r c n → ⊥
no_unmount r c n h u = let k = subst (λ (d : Command). IsTrue (reads_files d)) u.command h in absurd (cc)

gone_reply : (r : RosterView) (done : List Line) (c : Command) (v : CoreView) (y : Moment) → UnmountedIn r done v
    → ((n : ℕ) → y.door.seen_gone n ≡ true → (is_gone (state_of v) n ≡ true) ⊎ Unmounts r c n) → IsGone c (mounted (used_name c) r) y → IsTrue (may_be_gone done c)
gone_reply r done c v y before by g = elim (by g.mount.mount g.seen) [
  | inl gone ↦ may_gone done c g.reads (before.names (used_name c) g.mount g.is gone)
  | inr u ↦ absurd (no_unmount r c g.mount.mount g.reads u)
]

pub line_ran : (tells frames : Bool) (blobs : Listing) (regions : ℕ) (r : RosterView) → IsRoster tells blobs r → (block done : List Line) (xs : List Reply) (a b c : SourceView) (u v w : CoreView)
    (config : Config) (now : ℕ) (l : Line) (x : Reply) (report : Report) → all_tell u.cells ≡ frames → is_shared l.command ≡ true
    → LinesRan (alone (tells && frames) blobs regions) r block done xs a b u v
    → IsAnswer (tells && all_tell v.cells) (expected_reply blobs (mounts_of r) l.command) x
    → IsMarked l.command (mounted (used_name l.command) r) (seen b v) (seen c w) x
    → HasKind l.command (mounted (used_name l.command) r) x
    → Later v w → IsIdle w → SourceLater b c (x ≡ reply.Fault)
    → LineDoes (cached tells blobs config) now l.command (mounted (used_name l.command) r) x report (seen b v) (seen c w)
    → LinesRan (alone (tells && frames) blobs regions) r block (done ++ l ∷ []) (xs ++ x ∷ []) a c u w
line_ran tells frames blobs regions r kept block done xs a b c u v w config now l x report told shared h answer mark kind later idle source does =
    let by : (n : ℕ) → is_gone (state_of w) n ≡ true → (is_gone (state_of v) n ≡ true) ⊎ Unmounts r l.command n =
    λ n gone. gone_by r (cached tells blobs config) now l.command (mounted (used_name l.command) r) x report (seen b v) (seen c w) n shared refl does gone in
    let same : all_tell v.cells ≡ frames = h.core.tell ∙ told in
    let own : IsAnswer (tells && frames) (expected_reply blobs (mounts_of r) l.command) x = subst (λ (f : Bool). IsAnswer (tells && f) (expected_reply blobs (mounts_of r) l.command) x) same answer in
    let P : Reply → Type 0 = IsMarked l.command (mounted (used_name l.command) r) (seen b v) (seen c w) in
    record {
      allowed = allowed_more (alone (tells && frames) blobs regions) (mounts_of r) block [] done xs l x h.allowed
          (line_allowed (alone (tells && frames) blobs regions) (mounts_of r) done l.command x shared own (λ e. (subst P e mark).0) (λ e. gone_reply r done l.command v (seen c w) h.unmounted by (subst P e mark)));
      kinds = kinds_more r done xs l x h.kinds kind;
      bears = bears_more xs x a.faults b.faults c.faults h.bears source.failed source.later;
      faults = le_trans h.faults source.later;
      identity = source.identity ∙ h.identity;
      core = later_on h.core later;
      idle = idle;
      unmounted = unmounted_more tells blobs r kept done l v w h.unmounted by;
    }

-- ---- before the first line

pub lines_none : (s : RunSetting) (r : RosterView) (block : List Line) (a : SourceView) (v : CoreView) → IsIdle v → UnmountedIn r [] v → LinesRan s r block [] [] a a v v
lines_none s r block a v idle unmounted = record {
  allowed = tt {0};
  kinds = tt {0};
  bears = bears_none a.faults;
  faults = omega arith;
  identity = refl;
  core = later_same v;
  idle = idle;
  unmounted = unmounted;
}

pub ran_as : (s : RunSetting) (r : RosterView) (block done done' : List Line) (xs xs' : List Reply) (a b : SourceView) (v w : CoreView) → done' ≡ done → xs' ≡ xs
    → LinesRan s r block done xs a b v w → LinesRan s r block done' xs' a b v w
ran_as s r block done done' xs xs' a b v w e f h =
    let P : List Line → Type 0 = λ ls. LinesRan s r block ls xs a b v w in
    let Q : List Reply → Type 0 = λ ys. LinesRan s r block done' ys a b v w in
    subst Q (sym f) (subst P (sym e) h)

-- a line that can be shared, at its place
pub shared_at : (ls : List Line) (i : ℕ) (l : Line) → AllShared ls → i < length ls → l ≡ get_or ls i l → is_shared l.command ≡ true
shared_at [] i l h k e = absurd (omega (arith, k))
shared_at (m ∷ ls) zero l h k e = ap (λ (n : Line). is_shared n.command) e ∙ h.0
shared_at (m ∷ ls) (suc i) l h k e = let fewer : i < length ls = omega (arith, k) in shared_at ls i l h.1 fewer e

-- ---- behind the last line

form_no_stats : (c : Command) (x : Reply) → reads_files c ≡ true → FilesKind c x → NoStats (x ∷ [])
form_no_stats c (reply.Mounted files docs) r h = tt {0}
form_no_stats c reply.Unmounted r h = tt {0}
form_no_stats c reply.Cleared r h = tt {0}
form_no_stats c reply.Decayed r h = tt {0}
form_no_stats c (reply.Hits total shown) r h = tt {0}
form_no_stats c (reply.Fields fields) r h = tt {0}
form_no_stats c (reply.Bytes bytes) r h = tt {0}
form_no_stats c (reply.Refused text) r h = tt {0}
form_no_stats c reply.Fault r h = tt {0}
form_no_stats c reply.Gone r h = tt {0}
form_no_stats c reply.NoMemory r h = tt {0}
form_no_stats (Mount name manifest) (reply.Stats free listed leaving evictions promotions demotions fetched direct) r h = absurd (cc)
form_no_stats (Unmount name) (reply.Stats free listed leaving evictions promotions demotions fetched direct) r h = absurd (cc)
form_no_stats (Clear name) (reply.Stats free listed leaving evictions promotions demotions fetched direct) r h = absurd (cc)
form_no_stats Decay (reply.Stats free listed leaving evictions promotions demotions fetched direct) r h = absurd (cc)
form_no_stats Stats (reply.Stats free listed leaving evictions promotions demotions fetched direct) r h = absurd (cc)
form_no_stats (Search name size text) (reply.Stats free listed leaving evictions promotions demotions fetched direct) r h = h
form_no_stats (Fetch name segment doc) (reply.Stats free listed leaving evictions promotions demotions fetched direct) r h = h
form_no_stats (Read name file at len) (reply.Stats free listed leaving evictions promotions demotions fetched direct) r h = h

is_no_stats : (a x : Reply) → NoStats (a ∷ []) → x ≡ a → NoStats (x ∷ [])
is_no_stats a x h e = subst (λ (y : Reply). NoStats (y ∷ [])) (sym e) h

or_no_stats : (text : List ℕ) (x : Reply) → (x ≡ reply.Refused text) ⊎ (x ≡ reply.NoMemory) → NoStats (x ∷ [])
or_no_stats text x (inl e) = is_no_stats (reply.Refused text) x (tt {0}) e
or_no_stats text x (inr e) = is_no_stats reply.NoMemory x (tt {0}) e

kind_no_stats : (c : Command) (o : Option MountView) (x : Reply) → is_shared c ≡ true → HasKind c o x → NoStats (x ∷ [])
kind_no_stats (Mount name manifest) o x s h = absurd (cc)
kind_no_stats Stats o x s h = absurd (cc)
kind_no_stats Decay o x s h = is_no_stats reply.Decayed x (tt {0}) h
kind_no_stats (Unmount name) None x s h = or_no_stats _ x h
kind_no_stats (Clear name) None x s h = or_no_stats _ x h
kind_no_stats (Search name size text) None x s h = or_no_stats _ x h
kind_no_stats (Fetch name segment doc) None x s h = or_no_stats _ x h
kind_no_stats (Read name file at len) None x s h = or_no_stats _ x h
kind_no_stats (Unmount name) (Some m) x s h = is_no_stats reply.Unmounted x (tt {0}) h
kind_no_stats (Clear name) (Some m) x s h = is_no_stats reply.Cleared x (tt {0}) h
kind_no_stats (Search name size text) (Some m) x s h = form_no_stats (Search name size text) x refl h
kind_no_stats (Fetch name segment doc) (Some m) x s h = form_no_stats (Fetch name segment doc) x refl h
kind_no_stats (Read name file at len) (Some m) x s h = form_no_stats (Read name file at len) x refl h

no_stats_cons : (x : Reply) (xs : List Reply) → NoStats (x ∷ []) → NoStats xs → NoStats (x ∷ xs)
no_stats_cons (reply.Stats free listed leaving evictions promotions demotions fetched direct) xs h k = h
no_stats_cons x xs h k = k

pub kinds_no_stats : (r : RosterView) (ls : List Line) (xs : List Reply) → AllShared ls → Kinds r ls xs → NoStats xs
kinds_no_stats r [] [] s h = tt {0}
kinds_no_stats r [] (x ∷ xs) s h = absurd h
kinds_no_stats r (l ∷ ls) [] s h = absurd h
kinds_no_stats r (l ∷ ls) (x ∷ xs) s h = no_stats_cons x xs (kind_no_stats l.command (mounted (used_name l.command) r) x s.0 h.0) (kinds_no_stats r ls xs s.1 h.1)

pub kinds_length : (r : RosterView) (ls : List Line) (xs : List Reply) → Kinds r ls xs → length xs ≡ length ls
kinds_length r [] [] h = refl
kinds_length r [] (x ∷ xs) h = absurd h
kinds_length r (l ∷ ls) [] h = absurd h
kinds_length r (l ∷ ls) (x ∷ xs) h = let k = kinds_length r ls xs h.1 in omega (arith, k)

-- what a line that is no `mount` makes of what is mounted
line_makes : (blobs : Listing) (c : Command) (x : Reply) (m : Mounts) (other : List ℕ) → is_mount c ≡ false → (after_line blobs c x m).number_of other ≡ cond (forgets c x other) None (m.number_of other)
line_makes blobs (Mount name manifest) x m other s = absurd (cc)
line_makes blobs (Unmount name) reply.Unmounted m other s = refl
line_makes blobs (Unmount name) x m other s = refl
line_makes blobs (Clear name) x m other s = refl
line_makes blobs Decay x m other s = refl
line_makes blobs Stats x m other s = refl
line_makes blobs (Search name size text) x m other s = refl
line_makes blobs (Fetch name segment doc) x m other s = refl
line_makes blobs (Read name file at len) x m other s = refl

line_made : (blobs : Listing) (c : Command) (x : Reply) (m : Mounts) → is_mount c ≡ false → (after_line blobs c x m).made ≡ m.made
line_made blobs (Mount name manifest) x m s = absurd (cc)
line_made blobs (Unmount name) reply.Unmounted m s = refl
line_made blobs (Unmount name) x m s = refl
line_made blobs (Clear name) x m s = refl
line_made blobs Decay x m s = refl
line_made blobs Stats x m s = refl
line_made blobs (Search name size text) x m s = refl
line_made blobs (Fetch name segment doc) x m s = refl
line_made blobs (Read name file at len) x m s = refl

no_mount : (c : Command) → is_shared c ≡ true → is_mount c ≡ false
no_mount (Mount name manifest) s = absurd (cc)
no_mount (Unmount name) s = refl
no_mount (Clear name) s = refl
no_mount Decay s = refl
no_mount Stats s = refl
no_mount (Search name size text) s = refl
no_mount (Fetch name segment doc) s = refl
no_mount (Read name file at len) s = refl

pub no_mounts_of : (ls : List Line) → AllShared ls → NoMounts ls
no_mounts_of [] s = tt {0}
no_mounts_of (l ∷ ls) s = (no_mount l.command s.0, no_mounts_of ls s.1)

pub block_makes : (blobs : Listing) (ls : List Line) (xs : List Reply) (m : Mounts) (other : List ℕ) → NoMounts ls → length xs ≡ length ls
    → (after_block blobs ls xs m).number_of other ≡ cond (forgets_any ls xs other) None (m.number_of other)
block_makes blobs [] xs m other s e = refl
block_makes blobs (l ∷ ls) [] m other s e = absurd (omega (arith, e))
block_makes blobs (l ∷ ls) (x ∷ xs) m other s e =
    let less : length xs ≡ length ls = omega (arith, e) in
    block_makes blobs ls xs (after_line blobs l.command x m) other s.1 less
    ∙ ap (λ (o : Option ℕ). cond (forgets_any ls xs other) None o) (line_makes blobs l.command x m other s.0)
    ∙ cond_or (forgets l.command x other) (forgets_any ls xs other) (m.number_of other)

pub block_made : (blobs : Listing) (ls : List Line) (xs : List Reply) (m : Mounts) → NoMounts ls → length xs ≡ length ls → (after_block blobs ls xs m).made ≡ m.made
block_made blobs [] xs m s e = refl
block_made blobs (l ∷ ls) [] m s e = absurd (omega (arith, e))
block_made blobs (l ∷ ls) (x ∷ xs) m s e =
    let less : length xs ≡ length ls = omega (arith, e) in
    block_made blobs ls xs (after_line blobs l.command x m) s.1 less ∙ line_made blobs l.command x m s.0

pub same_mounts : (m n : Mounts) → ((other : List ℕ) → m.number_of other ≡ n.number_of other) → m.made ≡ n.made → m ≡ n
same_mounts m n h e = ap₂ (λ (f : List ℕ → Option ℕ) (k : ℕ). record { number_of = f; made = k }) (fun_ext h) e

pub number_cond : (b : Bool) (o : Option MountView) → option_map (λ (m : MountView). m.number) (cond b None o) ≡ cond b None (option_map (λ (m : MountView). m.number) o)
number_cond true o = refl
number_cond false o = refl

-- an unmount line of a mount takes it away
forgot : (r : RosterView) (name : List ℕ) (m : MountView) (ls : List Line) (xs : List Reply) → Kinds r ls xs → mounted name r ≡ Some m → unmounted_in ls name ≡ true → forgets_any ls xs name ≡ true
forgot r name m [] xs h is there = absurd (cc)
forgot r name m (l ∷ ls) [] h is there = absurd h
forgot r name m (l ∷ ls) (x ∷ xs) h is there = by_line (λ more. forgot r name m ls xs h.1 is more) (is_unmount_of name l.command) refl there
  where
    here : (c : Command) → is_unmount_of name c ≡ true → HasKind c (mounted (used_name c) r) x → forgets c x name ≡ true
    here (Mount other manifest) e k = absurd (cc)
    here Stats e k = absurd (cc)
    here Decay e k = absurd (cc)
    here (Clear other) e k = absurd (cc)
    here (Search other size text) e k = absurd (cc)
    here (Fetch other segment doc) e k = absurd (cc)
    here (Read other file at len) e k = absurd (cc)
    here (Unmount other) e k =
        let same : mounted other r ≡ Some m = ap (λ (n : List ℕ). mounted n r) (same_bytes other name e) ∙ is in
        let P : Option MountView → Type 0 = λ o. HasKind (Unmount other) o x in
        let answered : x ≡ reply.Unmounted = subst P same k in
        ap (λ (y : Reply). forgets (Unmount other) y name) answered ∙ e

    by_line : (unmounted_in ls name ≡ true → forgets_any ls xs name ≡ true) → (b : Bool) → is_unmount_of name l.command ≡ b → unmounted_in (l ∷ ls) name ≡ true → forgets_any (l ∷ ls) (x ∷ xs) name ≡ true
    by_line rest true e k = ap (λ (b : Bool). b || forgets_any ls xs name) (here l.command e h.0)
    by_line rest false e k =
        let later : unmounted_in ls name ≡ true = ap (λ (b : Bool). b || unmounted_in ls name) (sym e) ∙ k in
        ap (λ (b : Bool). forgets l.command x name || b) (rest later) ∙ or-true (forgets l.command x name)

pub shared_ran : (s : RunSetting) (r q : RosterView) (block : List Line) (xs : List Reply) (a b : SourceView) (v w : CoreView) → AllShared block → LinesRan s r block block xs a b v w → Forgotten block xs r q
    → BlockRan s r q block xs a b v w
shared_ran s r q block xs a b v w shared h f =
    let many = kinds_length r block xs h.kinds in
    record {
      allowed = h.allowed;
      mounts = λ t. same_mounts (mounts_of q) (after_block s.blobs block xs (mounts_of r))
          (λ other. ap (λ (o : Option MountView). option_map (λ (m : MountView). m.number) o) (f.mounts other) ∙ number_cond (forgets_any block xs other) (mounted other r)
          ∙ sym (block_makes s.blobs block xs (mounts_of r) other (no_mounts_of block shared) many))
          (f.made ∙ sym (block_made s.blobs block xs (mounts_of r) (no_mounts_of block shared) many));
      bears = h.bears;
      faults = h.faults;
      identity = h.identity;
      core = h.core;
      idle = h.idle;
      unmounted = record {
        names = λ name m is gone. absurd (left name m (forgets_any block xs name) refl is gone);
        numbers = λ n past. h.unmounted.numbers n (omega (arith, f.made, past));
      };
    }
  where
    left : (name : List ℕ) (m : MountView) (b : Bool) → forgets_any block xs name ≡ b → mounted name q ≡ Some m → is_gone (state_of w) m.mount ≡ true → ⊥
    left name m true e is gone = let none : mounted name q ≡ None = f.mounts name ∙ ap (λ (b : Bool). cond b None (mounted name r)) e in absurd (cc)
    left name m false e is gone =
        let own : mounted name r ≡ Some m = sym (f.mounts name ∙ ap (λ (b : Bool). cond b None (mounted name r)) e) ∙ is in
        let taken = forgot r name m block xs h.kinds own (h.unmounted.names name m own gone) in
        absurd (cc)

-- ---- a block of one line

pub block_some : (ls : List Line) → IsBlock ls → 0 < length ls
block_some [] h = absurd h
block_some (l ∷ ls) h = omega arith

pub block_shared : (ls : List Line) (l : Line) → IsBlock ls → l ≡ get_or ls 0 l → is_shared l.command ≡ true → AllShared ls
block_shared [] l h e k = absurd h
block_shared (m ∷ ls) l (inl h) e k = h
block_shared (m ∷ ls) l (inr h) e k = let f : is_shared l.command ≡ false = ap (λ (n : Line). is_shared n.command) e ∙ h.0 in absurd (cc)

pub block_single : (ls : List Line) (l : Line) → IsBlock ls → l ≡ get_or ls 0 l → is_shared l.command ≡ false → ls ≡ l ∷ []
block_single [] l h e k = absurd h
block_single (m ∷ ls) l (inl h) e k = let f : is_shared l.command ≡ true = ap (λ (n : Line). is_shared n.command) e ∙ h.0 in absurd (cc)
block_single (m ∷ ls) l (inr h) e k = ap₂ (λ (n : Line) (ns : List Line). n ∷ ns) (sym e) h.1

pub mount_allowed : (tells frames : Bool) (blobs : Listing) (regions : ℕ) (m : Mounts) (name manifest : List ℕ) (x : Reply) → MountKind x → IsAnswer tells (mount_reply blobs m name manifest) x
    → Allowed (alone (tells && frames) blobs regions) m [] (Mount name manifest) x
mount_allowed tells frames blobs regions m name manifest (reply.Mounted files docs) k h = λ t. h (first_so tells frames t)
mount_allowed tells frames blobs regions m name manifest (reply.Refused text) k h = λ t. h (first_so tells frames t)
mount_allowed tells frames blobs regions m name manifest reply.Fault k h = refl
mount_allowed tells frames blobs regions m name manifest reply.NoMemory k h = tt {0}
mount_allowed tells frames blobs regions m name manifest x k h = absurd k

-- the roster is as before, and so is what is mounted; or one mount was made
pub mount_cases : (tells : Bool) (blobs : Listing) (name manifest : List ℕ) (r q : RosterView) (x : Reply) → RosterGoes tells blobs name manifest r q x
    → ((q ≡ r) × ((m : Mounts) → after_line blobs (Mount name manifest) x m ≡ m))
    ⊎ (MountsOne tells blobs name manifest r q × ((m : Mounts) → after_line blobs (Mount name manifest) x m ≡ with_name name (manifest_number manifest blobs) m))
mount_cases tells blobs name manifest r q (reply.Mounted files docs) h = inr (h, λ m. refl)
mount_cases tells blobs name manifest r q reply.Unmounted h = inl (h, λ m. refl)
mount_cases tells blobs name manifest r q reply.Cleared h = inl (h, λ m. refl)
mount_cases tells blobs name manifest r q reply.Decayed h = inl (h, λ m. refl)
mount_cases tells blobs name manifest r q (reply.Hits total shown) h = inl (h, λ m. refl)
mount_cases tells blobs name manifest r q (reply.Fields fields) h = inl (h, λ m. refl)
mount_cases tells blobs name manifest r q (reply.Bytes bytes) h = inl (h, λ m. refl)
mount_cases tells blobs name manifest r q (reply.Stats free listed leaving evictions promotions demotions fetched direct) h = inl (h, λ m. refl)
mount_cases tells blobs name manifest r q (reply.Refused text) h = inl (h, λ m. refl)
mount_cases tells blobs name manifest r q reply.Fault h = inl (h, λ m. refl)
mount_cases tells blobs name manifest r q reply.Gone h = inl (h, λ m. refl)
mount_cases tells blobs name manifest r q reply.NoMemory h = inl (h, λ m. refl)

number_some : (b : Bool) (n : MountView) (o : Option MountView) → option_map (λ (m : MountView). m.number) (cond b (Some n) o) ≡ cond b (Some n.number) (option_map (λ (m : MountView). m.number) o)
number_some true n o = refl
number_some false n o = refl

one_more : (tells : Bool) (blobs : Listing) (name manifest : List ℕ) (r q : RosterView) → MountsOne tells blobs name manifest r q → IsTrue tells
    → mounts_of q ≡ with_name name (manifest_number manifest blobs) (mounts_of r)
one_more tells blobs name manifest r q h t = same_mounts (mounts_of q) (with_name name (manifest_number manifest blobs) (mounts_of r)) at (ap (λ (x : RosterView). x.made) h.made)
  where
    at : (other : List ℕ) → (mounts_of q).number_of other ≡ (with_name name (manifest_number manifest blobs) (mounts_of r)).number_of other
    at other =
        ap (λ (x : RosterView). option_map (λ (m : MountView). m.number) (mounted other x)) h.made
        ∙ ap (λ (o : Option MountView). option_map (λ (m : MountView). m.number) o) (mounted_with name h.number h.facts h.parts r other)
        ∙ number_some (bytes_eq name other) (record { mount = r.made; number = h.number; facts = h.facts; parts = h.parts }) (mounted other r)
        ∙ ap (λ (o : Option ℕ). cond (bytes_eq name other) o (option_map (λ (m : MountView). m.number) (mounted other r))) (sym (h.found t))

pub mount_mounts : (tells : Bool) (blobs : Listing) (name manifest : List ℕ) (r q : RosterView) (x : Reply) → RosterGoes tells blobs name manifest r q x → IsTrue tells
    → mounts_of q ≡ after_line blobs (Mount name manifest) x (mounts_of r)
mount_mounts tells blobs name manifest r q x h t = elim (mount_cases tells blobs name manifest r q x h) [
  | inl k ↦ ap mounts_of k.0 ∙ sym (k.1 (mounts_of r))
  | inr k ↦ one_more tells blobs name manifest r q k.0 t ∙ sym (k.1 (mounts_of r))
]

pub does_live : (x y : DoorView) (given : Reply) → MountDoes x y given → (y.hold ≡ x.hold) × (y.unmounted ≡ x.unmounted)
does_live x y (reply.Mounted files docs) h = (h.hold, h.unmounted)
does_live x y reply.Unmounted h = (ap (λ (d : DoorView). d.hold) h, ap (λ (d : DoorView). d.unmounted) h)
does_live x y reply.Cleared h = (ap (λ (d : DoorView). d.hold) h, ap (λ (d : DoorView). d.unmounted) h)
does_live x y reply.Decayed h = (ap (λ (d : DoorView). d.hold) h, ap (λ (d : DoorView). d.unmounted) h)
does_live x y (reply.Hits total shown) h = (ap (λ (d : DoorView). d.hold) h, ap (λ (d : DoorView). d.unmounted) h)
does_live x y (reply.Fields fields) h = (ap (λ (d : DoorView). d.hold) h, ap (λ (d : DoorView). d.unmounted) h)
does_live x y (reply.Bytes bytes) h = (ap (λ (d : DoorView). d.hold) h, ap (λ (d : DoorView). d.unmounted) h)
does_live x y (reply.Stats free listed leaving evictions promotions demotions fetched direct) h = (ap (λ (d : DoorView). d.hold) h, ap (λ (d : DoorView). d.unmounted) h)
does_live x y (reply.Refused text) h = (ap (λ (d : DoorView). d.hold) h, ap (λ (d : DoorView). d.unmounted) h)
does_live x y reply.Fault h = (ap (λ (d : DoorView). d.hold) h, ap (λ (d : DoorView). d.unmounted) h)
does_live x y reply.Gone h = (ap (λ (d : DoorView). d.hold) h, ap (λ (d : DoorView). d.unmounted) h)
does_live x y reply.NoMemory h = (ap (λ (d : DoorView). d.hold) h, ap (λ (d : DoorView). d.unmounted) h)

-- nothing was unmounted, and no number of a mount to come
mount_unmounted : (tells : Bool) (blobs : Listing) (name manifest : List ℕ) (r q : RosterView) (x : Reply) (v w : CoreView) → UnmountedIn r [] v → RosterGoes tells blobs name manifest r q x
    → (door_of w 0).unmounted ≡ (door_of v 0).unmounted → UnmountedIn q [] w
mount_unmounted tells blobs name manifest r q x v w before h same = record { names = names; numbers = numbers }
  where
    still : (n : ℕ) → is_gone (state_of w) n ≡ is_gone (state_of v) n
    still n = ap (λ (f : ℕ → Bool). f n) same

    by_cond : (other : List ℕ) (m new : MountView) (b : Bool) → new.mount ≡ r.made → mounted other q ≡ cond b (Some new) (mounted other r) → mounted other q ≡ Some m → is_gone (state_of w) m.mount ≡ true
        → unmounted_in [] other ≡ true
    by_cond other m new true number e is gone =
        let one : new ≡ m = cc in
        let past : r.made ≤ m.mount = omega (arith, ap (λ (k : MountView). k.mount) one, number) in
        let none = before.numbers m.mount past in
        let also = sym (still m.mount) ∙ gone in
        absurd (cc)
    by_cond other m new false number e is gone = before.names other m (sym e ∙ is) (sym (still m.mount) ∙ gone)

    names : (other : List ℕ) (m : MountView) → mounted other q ≡ Some m → is_gone (state_of w) m.mount ≡ true → unmounted_in [] other ≡ true
    names other m is gone = elim (mount_cases tells blobs name manifest r q x h) [
      | inl k ↦ before.names other m (ap (mounted other) (sym k.0) ∙ is) (sym (still m.mount) ∙ gone)
      | inr k ↦ by_cond other m (record { mount = r.made; number = k.0.number; facts = k.0.facts; parts = k.0.parts }) (bytes_eq name other) refl
          (ap (mounted other) k.0.made ∙ mounted_with name k.0.number k.0.facts k.0.parts r other) is gone
    ]

    numbers : (n : ℕ) → q.made ≤ n → is_gone (state_of w) n ≡ false
    numbers n past = elim (mount_cases tells blobs name manifest r q x h) [
      | inl k ↦ still n ∙ before.numbers n (omega (arith, ap (λ (k : RosterView). k.made) k.0, past))
      | inr k ↦ still n ∙ before.numbers n (omega (arith, ap (λ (k : RosterView). k.made) k.0.made, past))
    ]

mount_one : (tells frames : Bool) (blobs : Listing) (regions number : ℕ) (name manifest : List ℕ) (r q : RosterView) (x : Reply) (a b : SourceView) (v w : CoreView)
    → IsIdle v → UnmountedIn r [] v → IsAnswer tells (mount_reply blobs (mounts_of r) name manifest) x → MountKind x → RosterGoes tells blobs name manifest r q x
    → Later v w → SourceLater a b (x ≡ reply.Fault) → MountDoes (door_of v 0) (door_of w 0) x
    → BlockRan (alone (tells && frames) blobs regions) r q (record { number = number; command = Mount name manifest } ∷ []) (x ∷ []) a b v w
mount_one tells frames blobs regions number name manifest r q x a b v w idle unmounted answer kind goes later source does = record {
  allowed = (mount_allowed tells frames blobs regions (mounts_of r) name manifest x kind answer, tt {0});
  mounts = λ t. mount_mounts tells blobs name manifest r q x goes (first_so tells frames t);
  bears = bears_more [] x a.faults a.faults b.faults (bears_none a.faults) source.failed source.later;
  faults = source.later;
  identity = source.identity;
  core = later;
  idle = (does_live (door_of v 0) (door_of w 0) x does).0 ∙ idle;
  unmounted = mount_unmounted tells blobs name manifest r q x v w unmounted goes (does_live (door_of v 0) (door_of w 0) x does).1;
}

pub mount_ran : (tells frames : Bool) (blobs : Listing) (regions : ℕ) (block : List Line) (l : Line) (name manifest : List ℕ) (r q : RosterView) (x : Reply) (xs : List Reply) (a b : SourceView) (v w : CoreView)
    → block ≡ l ∷ [] → l.command ≡ Mount name manifest → xs ≡ x ∷ []
    → IsIdle v → UnmountedIn r [] v → IsAnswer tells (mount_reply blobs (mounts_of r) name manifest) x → MountKind x → RosterGoes tells blobs name manifest r q x
    → Later v w → SourceLater a b (x ≡ reply.Fault) → MountDoes (door_of v 0) (door_of w 0) x
    → BlockRan (alone (tells && frames) blobs regions) r q block xs a b v w
mount_ran tells frames blobs regions block l name manifest r q x xs a b v w one is only idle unmounted answer kind goes later source does =
    let s = alone (tells && frames) blobs regions in
    let P : Command → Type 0 = λ c. BlockRan s r q (record { number = l.number; command = c } ∷ []) (x ∷ []) a b v w in
    let Q : List Line → Type 0 = λ ls. BlockRan s r q ls (x ∷ []) a b v w in
    let R : List Reply → Type 0 = λ ys. BlockRan s r q block ys a b v w in
    subst R (sym only) (subst Q (sym one) (subst P (sym is) (mount_one tells frames blobs regions l.number name manifest r q x a b v w idle unmounted answer kind goes later source does)))

kind_mount : (x : Reply) → MountKind x → NoStats (x ∷ [])
kind_mount (reply.Stats free listed leaving evictions promotions demotions fetched direct) h = h
kind_mount x h = tt {0}

pub mount_stats : (x : Reply) (xs : List Reply) (v w : CoreView) (before now : Sums) → xs ≡ x ∷ [] → MountKind x → BlockStats v w before now xs
mount_stats x xs v w before now e h = inl (subst NoStats (sym e) (kind_mount x h))

stats_one : (s : RunSetting) (number : ℕ) (p : PolicyView) (sums : Sums) (r : RosterView) (a : SourceView) (v : CoreView) → (s.workers == 1) ≡ true
    → IsIdle v → UnmountedIn r [] v → IsStats s.regions (stats_of p sums) → BlockRan s r r (record { number = number; command = Stats } ∷ []) (stats_of p sums ∷ []) a a v v
stats_one s number p sums r a v alone_one idle unmounted all = record {
  allowed = (subst (λ (b : Bool). IsStatsReply b s.regions (stats_of p sums)) (sym alone_one) all, tt {0});
  mounts = λ t. refl;
  bears = bears_more [] (stats_of p sums) a.faults a.faults a.faults (bears_none a.faults) (λ e. absurd (cc)) (le_refl a.faults);
  faults = le_refl a.faults;
  identity = refl;
  core = later_same v;
  idle = idle;
  unmounted = unmounted;
}

pub stats_ran : (tells : Bool) (blobs : Listing) (regions : ℕ) (block : List Line) (l : Line) (x : Reply) (xs : List Reply) (sums : Sums) (r : RosterView) (a : SourceView) (v : CoreView)
    → block ≡ l ∷ [] → l.command ≡ Stats → xs ≡ x ∷ [] → x ≡ stats_of v.policy sums → IsStats regions x → IsIdle v → UnmountedIn r [] v
    → BlockRan (alone tells blobs regions) r r block xs a a v v
stats_ran tells blobs regions block l x xs sums r a v one is only given all idle unmounted =
    let s = alone tells blobs regions in
    let P : Command → Type 0 = λ c. BlockRan s r r (record { number = l.number; command = c } ∷ []) (stats_of v.policy sums ∷ []) a a v v in
    let Q : List Line → Type 0 = λ ls. BlockRan s r r ls (stats_of v.policy sums ∷ []) a a v v in
    let R : List Reply → Type 0 = λ ys. BlockRan s r r block ys a a v v in
    let whole : IsStats regions (stats_of v.policy sums) = subst (IsStats regions) given all in
    subst R (sym (only ∙ ap (λ (y : Reply). y ∷ []) given)) (subst Q (sym one) (subst P (sym is) (stats_one s l.number v.policy sums r a v refl idle unmounted whole)))
