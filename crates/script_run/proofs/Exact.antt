-- Where only `read` lines read, a run is what the steps of the state say.
use Rattle.std.proofs.Common.{◌≡◌, ◌∙◌, ◌<◌, ◌≤◌, ◌+◌, ◌-◌, ◌^◌, ℕ, zero, suc, Bool, true, false, cond, List, [], ◌∷◌, length, map, sym, subst, ap, ap₂, refl, inl, inr, arith}
use Rattle.std.specs.Prelude.{IsTrue, Option, Some, None, option_map, min, ◌||◌, ◌⊎◌, slice_get}
use Rattle.std.specs.List.{list_any}
use Rattle.std.specs.Option.{option_map_or}
use Rattle.std.specs.Str.{bytes_eq}
use Rattle.std.proofs.Math.Path.{fun_ext}
use Rattle.std.proofs.lemmas.Bool.{cases_lt, or_parts}
use Rattle.byte_text.specs.Counts.{Rose}
use Rattle.cache_outside.specs.Listing.{Listing}
use Rattle.cache_outside.specs.Sources.{SourceView}
use Rattle.mount_manifest.specs.Manifest.{Facts}
use Rattle.mount_manifest.specs.declared.record.FileRecord.{FileRecord}
use Rattle.blob_parts.specs.Tables.{FileParts, file_length, lengths_of}
use Rattle.blob_parts.specs.Takes.{Took}
use Rattle.blob_parts.specs.Reading.{took_none, took_both, rose_first, rose_then}
use Rattle.directory_input.specs.Reads as directory
use Rattle.index_mounts.specs.Rosters.{MountView, RosterView, IsRoster, IsResolved, mounted}
use Rattle.cache_door.specs.Cores.{state_of, door_of, all_faults}
use Rattle.cache_door.specs.Doors.{DoorView}
use Rattle.cache_door.specs.Machine.{State, age, clear, unmount}
use Rattle.cache_reader.specs.Alone.{Outcome, unchanged, then_outcome, reads_outcome, HasOutcome}
use Rattle.cache_reader.specs.declared.report.Report.{Report}
use Rattle.cache_reader.specs.Reports.{no_bytes, Grew}
use Rattle.cache_reader.specs.Going.{Moment}
use Rattle.mount_script.specs.declared.command.Command.{Command}
use Rattle.mount_script.specs.declared.command.Command.TheVariants.{Mount, Unmount, Clear, Decay, Stats, Search, Fetch, Read}
use Rattle.mount_script.specs.declared.command.Line.{Line}
use Rattle.mount_script.specs.declared.reply.Reply.{Reply}
use Rattle.mount_script.specs.declared.reply.Reply.TheVariants as reply
use Rattle.shard_replies.specs.ExpectedReplies.{used_name, read_steps, facts_in}
use Rattle.script_run.specs.declared.sums.Sums.{Sums}
use Rattle.script_run.specs.Allowed.{is_memory, some_reply}
use Rattle.script_run.specs.Bytes.{BytesTook, BlockTook, BlocksTook}
use Rattle.script_run.specs.Lines.{Cached, LineDoes, FilesRead, reading, asked_reads, is_shared, is_mount}
use Rattle.script_run.specs.MountLines.{MountsOne, RosterGoes, MountDoes}
use Rattle.script_run.specs.RunTakes.{MountNumbers, NamedMounts, numbers_in, named_behind, named_behind_block, mount_reading, length_in, facts_of, line_step, line_outcome, block_outcome, blocks_outcome, searches, some_search}
use Rattle.script_run.specs.Blocks.{Point, seen, stats_of, AllShared, NoMounts, forgets, forgets_any, LineWent, LinesWent, SharedWent, MountWent, StatsWent, BlockWent, BlocksWent}
use Rattle.script_run.proofs.Blocks.{no_mounts_of, cond_or}
use Rattle.script_run.proofs.Counted.{shared_manifest, lines_counted, block_counted, blocks_counted}
use Rattle.script_run.proofs.Rosters.{mounted_with}

-- ---- what is mounted

abbrev pub numbers_of_view : MountView → MountNumbers
numbers_of_view m = numbers_in m.mount m.number

-- what is mounted in a roster
abbrev pub named_of : RosterView → NamedMounts
named_of r = record { under = λ name. option_map numbers_of_view (mounted name r); made = r.made }

same_named : (m n : NamedMounts) → ((other : List ℕ) → m.under other ≡ n.under other) → m.made ≡ n.made → m ≡ n
same_named m n h e = ap₂ (λ (f : List ℕ → Option MountNumbers) (k : ℕ). record { under = f; made = k }) (fun_ext h) e

line_names : (blobs : Listing) (c : Command) (x : Reply) (m : NamedMounts) (other : List ℕ) → is_mount c ≡ false → (named_behind blobs c x m).under other ≡ cond (forgets c x other) None (m.under other)
line_names blobs (Mount name manifest) x m other s = absurd (cc)
line_names blobs (Unmount name) reply.Unmounted m other s = refl
line_names blobs (Unmount name) x m other s = refl
line_names blobs (Clear name) x m other s = refl
line_names blobs Decay x m other s = refl
line_names blobs Stats x m other s = refl
line_names blobs (Search name size text) x m other s = refl
line_names blobs (Fetch name segment doc) x m other s = refl
line_names blobs (Read name file at len) x m other s = refl

line_made : (blobs : Listing) (c : Command) (x : Reply) (m : NamedMounts) → is_mount c ≡ false → (named_behind blobs c x m).made ≡ m.made
line_made blobs (Mount name manifest) x m s = absurd (cc)
line_made blobs (Unmount name) reply.Unmounted m s = refl
line_made blobs (Unmount name) x m s = refl
line_made blobs (Clear name) x m s = refl
line_made blobs Decay x m s = refl
line_made blobs Stats x m s = refl
line_made blobs (Search name size text) x m s = refl
line_made blobs (Fetch name segment doc) x m s = refl
line_made blobs (Read name file at len) x m s = refl

block_names : (blobs : Listing) (ls : List Line) (xs : List Reply) (m : NamedMounts) (other : List ℕ) → NoMounts ls → length xs ≡ length ls
    → (named_behind_block blobs ls xs m).under other ≡ cond (forgets_any ls xs other) None (m.under other)
block_names blobs [] xs m other s e = refl
block_names blobs (l ∷ ls) [] m other s e = absurd (omega (arith, e))
block_names blobs (l ∷ ls) (x ∷ xs) m other s e =
    let less : length xs ≡ length ls = omega (arith, e) in
    block_names blobs ls xs (named_behind blobs l.command x m) other s.1 less
    ∙ ap (λ (o : Option MountNumbers). cond (forgets_any ls xs other) None o) (line_names blobs l.command x m other s.0)
    ∙ cond_or (forgets l.command x other) (forgets_any ls xs other) (m.under other)

block_made : (blobs : Listing) (ls : List Line) (xs : List Reply) (m : NamedMounts) → NoMounts ls → length xs ≡ length ls → (named_behind_block blobs ls xs m).made ≡ m.made
block_made blobs [] xs m s e = refl
block_made blobs (l ∷ ls) [] m s e = absurd (omega (arith, e))
block_made blobs (l ∷ ls) (x ∷ xs) m s e =
    let less : length xs ≡ length ls = omega (arith, e) in
    block_made blobs ls xs (named_behind blobs l.command x m) s.1 less ∙ line_made blobs l.command x m s.0

numbers_cond : (b : Bool) (o : Option MountView) → option_map numbers_of_view (cond b None o) ≡ cond b None (option_map numbers_of_view o)
numbers_cond true o = refl
numbers_cond false o = refl

lines_length : (e : Cached) (now : ℕ) (r : RosterView) (ls : List Line) (gs : List Reply) (x y : Point) → LinesWent e now r ls gs x y → length gs ≡ length ls
lines_length e now r [] [] x y h = refl
lines_length e now r [] (g ∷ gs) x y h = absurd h
lines_length e now r (l ∷ ls) [] x y h = absurd h
lines_length e now r (l ∷ ls) (g ∷ gs) x y h = ap suc (lines_length e now r ls gs h.0 y h.2)

shared_named : (e : Cached) (now : ℕ) (r q : RosterView) (block : List Line) (replies : List Reply) (x y : Point) → SharedWent e now r q block replies x y
    → named_of q ≡ named_behind_block e.blobs block replies (named_of r)
shared_named e now r q block replies x y h =
    let many = lines_length e now r block replies x y h.lines in
    let plain = no_mounts_of block h.shared in
    same_named (named_of q) (named_behind_block e.blobs block replies (named_of r))
    (λ other. ap (option_map numbers_of_view) (h.forgotten.mounts other) ∙ numbers_cond (forgets_any block replies other) (mounted other r)
    ∙ sym (block_names e.blobs block replies (named_of r) other plain many))
    (h.forgotten.made ∙ sym (block_made e.blobs block replies (named_of r) plain many))

numbers_some : (b : Bool) (n : MountView) (o : Option MountView) → option_map numbers_of_view (cond b (Some n) o) ≡ cond b (Some (numbers_of_view n)) (option_map numbers_of_view o)
numbers_some true n o = refl
numbers_some false n o = refl

one_named : (tells : Bool) (blobs : Listing) (name manifest : List ℕ) (files docs : ℕ) (r q : RosterView) → MountsOne tells blobs name manifest r q → IsTrue tells
    → named_of q ≡ named_behind blobs (Mount name manifest) (reply.Mounted files docs) (named_of r)
one_named tells blobs name manifest files docs r q h t =
    same_named (named_of q) (named_behind blobs (Mount name manifest) (reply.Mounted files docs) (named_of r)) at (ap (λ (x : RosterView). x.made) h.made)
  where
    at : (other : List ℕ) → (named_of q).under other ≡ (named_behind blobs (Mount name manifest) (reply.Mounted files docs) (named_of r)).under other
    at other =
        ap (λ (x : RosterView). option_map numbers_of_view (mounted other x)) h.made
        ∙ ap (option_map numbers_of_view) (mounted_with name h.number h.facts h.parts r other)
        ∙ numbers_some (bytes_eq name other) (record { mount = r.made; number = h.number; facts = h.facts; parts = h.parts }) (mounted other r)
        ∙ ap (λ (o : Option ℕ). cond (bytes_eq name other) (option_map (numbers_in r.made) o) (option_map numbers_of_view (mounted other r))) (sym (h.found t))

mount_named : (tells : Bool) (blobs : Listing) (name manifest : List ℕ) (r q : RosterView) (x : Reply) → RosterGoes tells blobs name manifest r q x → IsTrue tells
    → named_of q ≡ named_behind blobs (Mount name manifest) x (named_of r)
mount_named tells blobs name manifest r q (reply.Mounted files docs) h t = one_named tells blobs name manifest files docs r q h t
mount_named tells blobs name manifest r q reply.Unmounted h t = ap named_of h
mount_named tells blobs name manifest r q reply.Cleared h t = ap named_of h
mount_named tells blobs name manifest r q reply.Decayed h t = ap named_of h
mount_named tells blobs name manifest r q (reply.Hits total shown) h t = ap named_of h
mount_named tells blobs name manifest r q (reply.Fields fields) h t = ap named_of h
mount_named tells blobs name manifest r q (reply.Bytes bytes) h t = ap named_of h
mount_named tells blobs name manifest r q (reply.Stats free listed leaving evictions promotions demotions fetched direct) h t = ap named_of h
mount_named tells blobs name manifest r q (reply.Refused text) h t = ap named_of h
mount_named tells blobs name manifest r q reply.Fault h t = ap named_of h
mount_named tells blobs name manifest r q reply.Gone h t = ap named_of h
mount_named tells blobs name manifest r q reply.NoMemory h t = ap named_of h

-- ---- a read

lengths_at : (fs : List FileParts) (rs : List FileRecord) (i : ℕ) → lengths_of fs ≡ map (λ (f : FileRecord). f.length) rs
    → option_map_or (λ (f : FileParts). f.length) (slice_get fs i) 0 ≡ option_map_or (λ (r : FileRecord). r.length) (slice_get rs i) 0
lengths_at [] [] i h = refl
lengths_at [] (r ∷ rs) i h = absurd (cc)
lengths_at (f ∷ fs) [] i h = absurd (cc)
lengths_at (f ∷ fs) (r ∷ rs) zero h = let same : f.length ≡ r.length = cc in same
lengths_at (f ∷ fs) (r ∷ rs) (suc i) h = let rest : lengths_of fs ≡ map (λ (f : FileRecord). f.length) rs = cc in lengths_at fs rs i rest

-- the reads that a `read` line asks for are those of the manifest's files
steps_of : (e : Cached) (m : MountView) (file : List ℕ) (at len : ℕ) → IsResolved e.tells e.blobs m.number m.facts m.parts → IsTrue e.tells
    → read_steps (file_length m.parts) m.facts file at len ≡ read_steps (length_in (facts_of e.blobs m.number)) (facts_of e.blobs m.number) file at len
steps_of e m file at len h told =
    let lengths : file_length m.parts ≡ length_in m.facts = fun_ext (λ i. lengths_at m.parts.files m.facts.files i h.lengths) in
    let facts : m.facts ≡ facts_of e.blobs m.number = ap facts_in (sym (h.manifest told)) in
    ap (λ (f : ℕ → ℕ). read_steps f m.facts file at len) lengths ∙ ap (λ (f : Facts). read_steps (length_in f) f file at len) facts

-- of a mount's table the number alone matters
reads_same : (e : Cached) (now : ℕ) (m : MountView) (reads : List directory.Read) (s : State) → m.parts.number ≡ m.number
    → reads_outcome (reading e m now) 0 reads s ≡ reads_outcome (mount_reading e now (numbers_of_view m)) 0 reads s
reads_same e now m reads s same = ap (λ (n : ℕ). reads_outcome (mount_reading e now (numbers_in m.mount n)) 0 reads s) same

-- ---- a line

-- between two moments no line searches (`searching`) or wanted memory (`lacks`), and no count of failures rose
pub record Quiet (searching lacks : Bool) (x y : Point) : Type 0 where
  pub search : searching ≡ false
  pub memory : lacks ≡ false
  pub source : Rose x.source.faults y.source.faults → ⊥
  pub frames : Rose (all_faults x.core.cells) (all_faults y.core.cells) → ⊥

pub quiet_first : (k l m n : Bool) (x z y : Point) → z.source.faults ≤ y.source.faults → all_faults z.core.cells ≤ all_faults y.core.cells → Quiet (k || l) (m || n) x y → Quiet k m x z
quiet_first k l m n x z y f g h = record {
  search = (or_parts k l h.search).0;
  memory = (or_parts m n h.memory).0;
  source = λ r. h.source (rose_first x.source.faults z.source.faults y.source.faults f r);
  frames = λ r. h.frames (rose_first (all_faults x.core.cells) (all_faults z.core.cells) (all_faults y.core.cells) g r);
}

pub quiet_then : (k l m n : Bool) (x z y : Point) → x.source.faults ≤ z.source.faults → all_faults x.core.cells ≤ all_faults z.core.cells → Quiet (k || l) (m || n) x y → Quiet l n z y
quiet_then k l m n x z y f g h = record {
  search = (or_parts k l h.search).1;
  memory = (or_parts m n h.memory).1;
  source = λ r. h.source (rose_then x.source.faults z.source.faults y.source.faults f r);
  frames = λ r. h.frames (rose_then (all_faults x.core.cells) (all_faults z.core.cells) (all_faults y.core.cells) g r);
}

nothing_taken : (report : Report) (t : State) (x y : Moment) → report ≡ no_bytes → y.source ≡ x.source → y.door.state ≡ Some t → HasOutcome (unchanged t) no_bytes report x y
nothing_taken report t x y none same state = record {
  places = subst (λ (s : SourceView). Took x.source.reads s.reads []) (sym same) (took_none x.source.reads []);
  fetched = subst (λ (n : Report). Grew 0 n.fetched 0) (sym none) (record { later = omega arith; most = omega arith; whole = λ h. refl });
  direct = subst (λ (n : Report). Grew 0 n.direct 0) (sym none) (record { later = omega arith; most = omega arith; whole = λ h. refl });
  state = state;
}

module _ (e : Cached) (now : ℕ) (r : RosterView) (kept : IsRoster e.tells e.blobs r) (told : IsTrue e.tells) (some : 0 < e.config.min_delta) (given : Reply) (report : Report) (x y : Point)
    (one : length x.core.holds ≡ 1) where
  rested : (s : Point) → (report ≡ no_bytes) × (seen y.source y.core ≡ seen x.source x.core) → HasOutcome (unchanged (state_of x.core)) no_bytes report (seen x.source x.core) (seen y.source y.core)
  rested s h = nothing_taken report (state_of x.core) (seen x.source x.core) (seen y.source y.core) h.0 (ap (λ (m : Moment). m.source) h.1) (ap (λ (m : Moment). m.door.state) h.1)

  did_read : (name file : List ℕ) (at len : ℕ) (m : MountView) → mounted name r ≡ Some m → Quiet false (is_memory given) x y
      → FilesRead (reading e m now) (asked_reads (file_length m.parts) m.facts (Read name file at len)) given report (seen x.source x.core) (seen y.source y.core)
      → HasOutcome (line_step e now (Some (numbers_of_view m)) (Read name file at len) (state_of x.core)) no_bytes report (seen x.source x.core) (seen y.source y.core)
  did_read name file at len m there quiet h =
      let own = (kept.mounts name m there).resolved in
      let s = state_of x.core in
      let exact = h.through.exact some told (h.enough quiet.memory) quiet.source quiet.frames s refl one in
      let asked : h.reads ≡ read_steps (file_length m.parts) m.facts file at len = which h.asked in
      let same = reads_same e now m h.reads s own.number
      ∙ ap (λ (rs : List directory.Read). reads_outcome (mount_reading e now (numbers_of_view m)) 0 rs s) (asked ∙ steps_of e m file at len own told) in
      subst (λ (w : Outcome). HasOutcome w no_bytes report (seen x.source x.core) (seen y.source y.core)) same exact
    where
      no : given ≡ reply.NoMemory → ⊥
      no is = let lacks = ap is_memory is in let enough = quiet.memory in absurd (cc)

      which : (h.reads ≡ read_steps (file_length m.parts) m.facts file at len) ⊎ ((h.reads ≡ []) × (given ≡ reply.NoMemory)) → h.reads ≡ read_steps (file_length m.parts) m.facts file at len
      which (inl is) = is
      which (inr none) = absurd (no none.1)

  line_did : (c : Command) (o : Option MountView) → mounted (used_name c) r ≡ o → is_shared c ≡ true → Quiet (searches c) (is_memory given) x y
      → LineDoes e now c o given report (seen x.source x.core) (seen y.source y.core)
      → HasOutcome (line_step e now (option_map numbers_of_view o) c (state_of x.core)) no_bytes report (seen x.source x.core) (seen y.source y.core)
  line_did Decay o is shared quiet h = nothing_taken report (age now (state_of x.core)) (seen x.source x.core) (seen y.source y.core) h.report_is h.source h.state
  line_did (Mount name manifest) o is shared quiet h = absurd (cc)
  line_did Stats o is shared quiet h = absurd (cc)
  line_did (Unmount name) None is shared quiet h = rested x h
  line_did (Clear name) None is shared quiet h = rested x h
  line_did (Search name size text) None is shared quiet h = rested x h
  line_did (Fetch name segment doc) None is shared quiet h = rested x h
  line_did (Read name file at len) None is shared quiet h = rested x h
  line_did (Unmount name) (Some m) is shared quiet h =
      nothing_taken report (unmount m.mount m.number (state_of x.core)) (seen x.source x.core) (seen y.source y.core) h.report_is h.source h.state
  line_did (Clear name) (Some m) is shared quiet h = nothing_taken report (clear m.number (state_of x.core)) (seen x.source x.core) (seen y.source y.core) h.report_is h.source h.state
  line_did (Search name size text) (Some m) is shared quiet h = let e = quiet.search in absurd (cc)
  line_did (Fetch name segment doc) (Some m) is shared quiet h = let e = quiet.search in absurd (cc)
  line_did (Read name file at len) (Some m) is shared quiet h = did_read name file at len m is quiet h

-- ---- sums and state

-- the sums are numbers of their type
pub record Small (x : Point) : Type 0 where
  pub fetched : x.sums.fetched < 2 ^ 64
  pub direct : x.sums.direct < 2 ^ 64

-- sums and state are as a step says
pub record Did (w : Outcome) (x y : Point) : Type 0 where
  pub fetched : y.sums.fetched ≡ min (x.sums.fetched + w.fetched) (2 ^ 64 - 1)
  pub direct : y.sums.direct ≡ min (x.sums.direct + w.direct) (2 ^ 64 - 1)
  pub state : state_of y.core ≡ w.state

sum_exact : (old new report n : ℕ) → Grew old new report → Grew 0 report n → new < 2 ^ 64 → new ≡ min (old + n) (2 ^ 64 - 1)
sum_exact old new report n g k small = elim (cases_lt new (2 ^ 64 - 1)) [
  | inl below ↦
      let own = g.whole below in
      let less : report < 2 ^ 64 - 1 = omega (arith, own, below) in
      let also = k.whole less in
      omega (arith, own, also, below)
  | inr past ↦ omega (arith, g.most, k.most, small, past)
]

did_none : (x y : Point) → Small x → y.sums ≡ x.sums → state_of y.core ≡ state_of x.core → Did (unchanged (state_of x.core)) x y
did_none x y small same state = record {
  fetched = let e = ap (λ (s : Sums). s.fetched) same in omega (arith, e, small.fetched);
  direct = let e = ap (λ (s : Sums). s.direct) same in omega (arith, e, small.direct);
  state = state;
}

did_more : (v w : Outcome) (x z y : Point) → Did v x z → Did w z y → Did (then_outcome v w) x y
did_more v w x z y h j = record {
  fetched = omega (arith, h.fetched, j.fetched);
  direct = omega (arith, h.direct, j.direct);
  state = j.state;
}

-- what lines took, and what they made of sums and state
record LinesDid (w : Outcome) (x y : Point) : Type 0 where
  took : Took x.source.reads y.source.reads w.places
  did : Did w x y

line_exact : (e : Cached) (now : ℕ) (r : RosterView) (c : Command) (given : Reply) (x y : Point) → IsRoster e.tells e.blobs r → IsTrue e.tells → 0 < e.config.min_delta → length x.core.holds ≡ 1
    → is_shared c ≡ true → Quiet (searches c) (is_memory given) x y → LineWent e now r c given x y → LinesDid (line_outcome e now (named_of r) c (state_of x.core)) x y
line_exact e now r c given x y kept told some one shared quiet h =
    let o = line_did e now r kept told some given h.report x y one c (mounted (used_name c) r) refl shared quiet h.does in
    let w = line_outcome e now (named_of r) c (state_of x.core) in
    let is : Some (state_of y.core) ≡ Some w.state = o.state in
    record {
      took = o.places;
      did = record {
        fetched = sum_exact x.sums.fetched y.sums.fetched h.report.fetched w.fetched h.sums.fetched o.fetched h.below.0;
        direct = sum_exact x.sums.direct y.sums.direct h.report.direct w.direct h.sums.direct o.direct h.below.1;
        state = some_same (state_of y.core) w.state is;
      };
    }
  where
    some_same : {X : Type 0} (a b : X) → Some a ≡ Some b → a ≡ b
    some_same a b k = cc

lines_exact : (e : Cached) (now : ℕ) (r : RosterView) (ls : List Line) (gs : List Reply) (x y : Point) → IsRoster e.tells e.blobs r → IsTrue e.tells → 0 < e.config.min_delta → length x.core.holds ≡ 1
    → Small x → AllShared ls → Quiet (list_any (λ (l : Line). searches l.command) ls) (list_any is_memory gs) x y → LinesWent e now r ls gs x y
    → LinesDid (block_outcome e now (named_of r) ls (state_of x.core)) x y
lines_exact e now r [] [] x y kept told some one small shared quiet h = record {
  took = subst (λ (p : Point). Took x.source.reads p.source.reads []) (sym h) (took_none x.source.reads []);
  did = did_none x y small (ap (λ (p : Point). p.sums) h) (ap (λ (p : Point). state_of p.core) h);
}
lines_exact e now r [] (g ∷ gs) x y kept told some one small shared quiet h = absurd h
lines_exact e now r (l ∷ ls) [] x y kept told some one small shared quiet h = absurd h
lines_exact e now r (l ∷ ls) (g ∷ gs) x y kept told some one small shared quiet h =
    let z = h.0 in
    let k = list_any (λ (l : Line). searches l.command) ls in
    let counted = (lines_counted e now r ls gs z y told h.2).counting in
    let a = line_outcome e now (named_of r) l.command (state_of x.core) in
    let first = line_exact e now r l.command g x z kept told some one shared.0
    (quiet_first (searches l.command) k (is_memory g) (list_any is_memory gs) x z y counted.faults counted.frames quiet) h.1 in
    let rest = lines_exact e now r ls gs z y kept told some (h.1.core.actors ∙ one) (record { fetched = h.1.below.0; direct = h.1.below.1 }) shared.1
    (quiet_then (searches l.command) k (is_memory g) (list_any is_memory gs) x z y h.1.faults h.1.core.faults quiet) h.2 in
    let later = subst (λ (s : State). LinesDid (block_outcome e now (named_of r) ls s) z y) first.did.state rest in
    let b = block_outcome e now (named_of r) ls a.state in
    record {
      took = took_both x.source.reads z.source.reads y.source.reads a.places b.places first.took later.took;
      did = did_more a b x z y first.did later.did;
    }

-- ---- a block

lines_small : (e : Cached) (now : ℕ) (r : RosterView) (ls : List Line) (gs : List Reply) (x y : Point) → Small x → LinesWent e now r ls gs x y → Small y
lines_small e now r [] [] x y small h = subst Small (sym h) small
lines_small e now r [] (g ∷ gs) x y small h = absurd h
lines_small e now r (l ∷ ls) [] x y small h = absurd h
lines_small e now r (l ∷ ls) (g ∷ gs) x y small h = lines_small e now r ls gs h.0 y (record { fetched = h.1.below.0; direct = h.1.below.1 }) h.2

lines_actors : (e : Cached) (now : ℕ) (r : RosterView) (ls : List Line) (gs : List Reply) (x y : Point) → LinesWent e now r ls gs x y → length y.core.holds ≡ length x.core.holds
lines_actors e now r [] [] x y h = ap (λ (p : Point). length p.core.holds) h
lines_actors e now r [] (g ∷ gs) x y h = absurd h
lines_actors e now r (l ∷ ls) [] x y h = absurd h
lines_actors e now r (l ∷ ls) (g ∷ gs) x y h = lines_actors e now r ls gs h.0 y h.2 ∙ h.1.core.actors

block_small : (e : Cached) (now : ℕ) (r q : RosterView) (block : List Line) (replies : List Reply) (x y : Point) → Small x → BlockWent e now r q block replies x y → Small y
block_small e now r q block replies x y small (inl h) = lines_small e now r block replies x y small h.lines
block_small e now r q block replies x y small (inr (inl h)) =
    record { fetched = subst (λ (s : Sums). s.fetched < 2 ^ 64) (sym h.sums) small.fetched; direct = subst (λ (s : Sums). s.direct < 2 ^ 64) (sym h.sums) small.direct }
block_small e now r q block replies x y small (inr (inr h)) = subst Small (sym h.rests) small

pub block_actors : (e : Cached) (now : ℕ) (r q : RosterView) (block : List Line) (replies : List Reply) (x y : Point) → BlockWent e now r q block replies x y → length y.core.holds ≡ length x.core.holds
block_actors e now r q block replies x y (inl h) = lines_actors e now r block replies x y h.lines
block_actors e now r q block replies x y (inr (inl h)) = h.core.actors
block_actors e now r q block replies x y (inr (inr h)) = ap (λ (p : Point). length p.core.holds) h.rests

-- what a block took of parts, what it made of sums and state, and what is mounted behind it
record BlockDid (e : Cached) (r q : RosterView) (block : List Line) (replies : List Reply) (w : Outcome) (x y : Point) : Type 0 where
  took : BlockTook e.blobs block x.source y.source w.places
  did : Did w x y
  named : named_of q ≡ named_behind_block e.blobs block replies (named_of r)

pub does_state : (x y : DoorView) (given : Reply) → MountDoes x y given → y.state ≡ x.state
does_state x y (reply.Mounted files docs) h = h.state
does_state x y reply.Unmounted h = ap (λ (d : DoorView). d.state) h
does_state x y reply.Cleared h = ap (λ (d : DoorView). d.state) h
does_state x y reply.Decayed h = ap (λ (d : DoorView). d.state) h
does_state x y (reply.Hits total shown) h = ap (λ (d : DoorView). d.state) h
does_state x y (reply.Fields fields) h = ap (λ (d : DoorView). d.state) h
does_state x y (reply.Bytes bytes) h = ap (λ (d : DoorView). d.state) h
does_state x y (reply.Stats free listed leaving evictions promotions demotions fetched direct) h = ap (λ (d : DoorView). d.state) h
does_state x y (reply.Refused text) h = ap (λ (d : DoorView). d.state) h
does_state x y reply.Fault h = ap (λ (d : DoorView). d.state) h
does_state x y reply.Gone h = ap (λ (d : DoorView). d.state) h
does_state x y reply.NoMemory h = ap (λ (d : DoorView). d.state) h

-- a `mount` line and a `stats` line change nothing of the state
step_mount : (e : Cached) (now : ℕ) (o : Option MountNumbers) (name manifest : List ℕ) (s : State) → line_step e now o (Mount name manifest) s ≡ unchanged s
step_mount e now None name manifest s = refl
step_mount e now (Some m) name manifest s = refl

step_stats : (e : Cached) (now : ℕ) (o : Option MountNumbers) (s : State) → line_step e now o Stats s ≡ unchanged s
step_stats e now None s = refl
step_stats e now (Some m) s = refl

-- the step of one such line
alone_step : (e : Cached) (now : ℕ) (m : NamedMounts) (l : Line) (s : State) → line_outcome e now m l.command s ≡ unchanged s → block_outcome e now m (l ∷ []) s ≡ unchanged s
alone_step e now m l s h = ap (λ (a : Outcome). then_outcome a (unchanged a.state)) h

shared_exact : (e : Cached) (now : ℕ) (r q : RosterView) (block : List Line) (replies : List Reply) (x y : Point) → IsTrue e.tells → 0 < e.config.min_delta → length x.core.holds ≡ 1 → Small x
    → Quiet (list_any (λ (l : Line). searches l.command) block) (list_any is_memory replies) x y → SharedWent e now r q block replies x y
    → BlockDid e r q block replies (block_outcome e now (named_of r) block (state_of x.core)) x y
shared_exact e now r q block replies x y told some one small quiet h =
    let d = lines_exact e now r block replies x y h.kept told some one small h.shared quiet h.lines in
    let w = block_outcome e now (named_of r) block (state_of x.core) in
    record {
      took = subst (λ (o : Option (List ℕ)). BytesTook e.blobs o x.source y.source w.places) (sym (shared_manifest block h.shared)) d.took;
      did = d.did;
      named = shared_named e now r q block replies x y h;
    }

mount_exact : (e : Cached) (now : ℕ) (r q : RosterView) (block : List Line) (replies : List Reply) (x y : Point) → IsTrue e.tells → Small x → MountWent e r q block replies x y
    → BlockDid e r q block replies (block_outcome e now (named_of r) block (state_of x.core)) x y
mount_exact e now r q block replies x y told small h =
    let l : Line = record { number = h.number; command = Mount h.name h.manifest } in
    let s = state_of x.core in
    let state : Some (state_of y.core) ≡ Some (state_of x.core) = does_state (door_of x.core 0) (door_of y.core 0) h.given h.door in
    let same : state_of y.core ≡ state_of x.core = cc in
    let step : block_outcome e now (named_of r) (l ∷ []) s ≡ unchanged s =
    alone_step e now (named_of r) l s (step_mount e now ((named_of r).under []) h.name h.manifest s) in
    let own : BlockDid e r q (l ∷ []) (h.given ∷ []) (unchanged s) x y = record {
      took = (refl, h.took told);
      did = did_none x y small h.sums same;
      named = mount_named e.tells e.blobs h.name h.manifest r q h.given h.roster told;
    } in
    let P : List Line → Type 0 = λ ls. BlockDid e r q ls replies (block_outcome e now (named_of r) ls s) x y in
    let Q : List Reply → Type 0 = λ gs. BlockDid e r q (l ∷ []) gs (block_outcome e now (named_of r) (l ∷ []) s) x y in
    subst P (sym h.line) (subst Q (sym h.reply_is) (subst (λ (w : Outcome). BlockDid e r q (l ∷ []) (h.given ∷ []) w x y) (sym step) own))

stats_exact : (e : Cached) (now : ℕ) (r q : RosterView) (block : List Line) (replies : List Reply) (x y : Point) → Small x → StatsWent r q block replies x y
    → BlockDid e r q block replies (block_outcome e now (named_of r) block (state_of x.core)) x y
stats_exact e now r q block replies x y small h =
    let l : Line = record { number = h.number; command = Stats } in
    let s = state_of x.core in
    let g = stats_of x.core.policy x.sums in
    let step : block_outcome e now (named_of r) (l ∷ []) s ≡ unchanged s = alone_step e now (named_of r) l s (step_stats e now ((named_of r).under []) s) in
    let own : BlockDid e r q (l ∷ []) (g ∷ []) (unchanged s) x y = record {
      took = subst (λ (p : Point). Took x.source.reads p.source.reads []) (sym h.rests) (took_none x.source.reads []);
      did = did_none x y small (ap (λ (p : Point). p.sums) h.rests) (ap (λ (p : Point). state_of p.core) h.rests);
      named = ap named_of h.roster;
    } in
    let P : List Line → Type 0 = λ ls. BlockDid e r q ls replies (block_outcome e now (named_of r) ls s) x y in
    let Q : List Reply → Type 0 = λ gs. BlockDid e r q (l ∷ []) gs (block_outcome e now (named_of r) (l ∷ []) s) x y in
    subst P (sym h.line) (subst Q (sym h.reply_is) (subst (λ (w : Outcome). BlockDid e r q (l ∷ []) (g ∷ []) w x y) (sym step) own))

block_exact : (e : Cached) (now : ℕ) (r q : RosterView) (block : List Line) (replies : List Reply) (x y : Point) → IsTrue e.tells → 0 < e.config.min_delta → length x.core.holds ≡ 1 → Small x
    → Quiet (list_any (λ (l : Line). searches l.command) block) (list_any is_memory replies) x y → BlockWent e now r q block replies x y
    → BlockDid e r q block replies (block_outcome e now (named_of r) block (state_of x.core)) x y
block_exact e now r q block replies x y told some one small quiet (inl h) = shared_exact e now r q block replies x y told some one small quiet h
block_exact e now r q block replies x y told some one small quiet (inr (inl h)) = mount_exact e now r q block replies x y told small h
block_exact e now r q block replies x y told some one small quiet (inr (inr h)) = stats_exact e now r q block replies x y small h

-- ---- a run

-- what blocks took of parts, and what they made of sums and state
pub record BlocksDid (blobs : Listing) (blocks : List (List Line)) (w : Outcome) (x y : Point) : Type 0 where
  pub took : BlocksTook blobs blocks x.source y.source w.places
  pub did : Did w x y

pub blocks_exact : (e : Cached) (ns : List ℕ) (r q : RosterView) (bs : List (List Line)) (gss : List (List Reply)) (x y : Point) → IsTrue e.tells → 0 < e.config.min_delta → length x.core.holds ≡ 1
    → Small x → Quiet (some_search bs) (some_reply is_memory gss) x y → BlocksWent e ns r q bs gss x y
    → BlocksDid e.blobs bs (blocks_outcome e ns (named_of r) bs gss (state_of x.core)) x y
blocks_exact e [] r q [] [] x y told some one small quiet h = record {
  took = (ap (λ (p : Point). p.source) h.1, refl);
  did = did_none x y small (ap (λ (p : Point). p.sums) h.1) (ap (λ (p : Point). state_of p.core) h.1);
}
blocks_exact e [] r q [] (g ∷ gss) x y told some one small quiet h = absurd h
blocks_exact e [] r q (b ∷ bs) gss x y told some one small quiet h = absurd h
blocks_exact e (n ∷ ns) r q [] gss x y told some one small quiet h = absurd h
blocks_exact e (n ∷ ns) r q (b ∷ bs) [] x y told some one small quiet h = absurd h
blocks_exact e (n ∷ ns) r q (b ∷ bs) (g ∷ gss) x y told some one small quiet h =
    let t = h.0 in
    let z = h.1 in
    let s = state_of x.core in
    let a = block_outcome e n (named_of r) b s in
    let k = list_any (λ (l : Line). searches l.command) b in
    let m = list_any is_memory g in
    let before = (block_counted e n r t b g x z told h.2).counting in
    let behind = (blocks_counted e ns t q bs gss z y told h.3).counting in
    let first = block_exact e n r t b g x z told some one small (quiet_first k (some_search bs) m (some_reply is_memory gss) x z y behind.faults behind.frames quiet) h.2 in
    let rest = blocks_exact e ns t q bs gss z y told some (block_actors e n r t b g x z h.2 ∙ one) (block_small e n r t b g x z small h.2)
    (quiet_then k (some_search bs) m (some_reply is_memory gss) x z y before.faults before.frames quiet) h.3 in
    let named = subst (λ (ms : NamedMounts). BlocksDid e.blobs bs (blocks_outcome e ns ms bs gss (state_of z.core)) z y) first.named rest in
    let ms = named_behind_block e.blobs b g (named_of r) in
    let later = subst (λ (s : State). BlocksDid e.blobs bs (blocks_outcome e ns ms bs gss s) z y) first.did.state named in
    let w = blocks_outcome e ns ms bs gss a.state in
    record {
      took = (z.source, a.places, w.places, first.took, later.took, refl);
      did = did_more a w x z y first.did later.did;
    }
