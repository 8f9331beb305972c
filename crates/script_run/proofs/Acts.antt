-- A run without `clear` and `unmount` lines is entries for parts of the mounted files, and decays.
use Rattle.std.proofs.Common.{◌≡◌, ◌∙◌, ◌<◌, ◌+◌, ℕ, zero, suc, Bool, true, false, cond, List, [], ◌∷◌, ◌++◌, length, sym, subst, ap, refl, inl, inr}
use Rattle.std.specs.Prelude.{IsTrue, Option, Some, None, ◌⊎◌, slice_get}
use Rattle.std.specs.List.{list_any}
use Rattle.std.specs.Str.{bytes_eq}
use Rattle.std.proofs.lemmas.List.{append-nil}
use Rattle.region_ranges.specs.Keys.{IsConfig}
use Rattle.cache_outside.specs.Listing.{Listing, manifest_number}
use Rattle.cache_outside.specs.Sources.{SourceView}
use Rattle.mount_manifest.specs.Manifest.{Facts}
use Rattle.mount_manifest.specs.Sound.{AreSound}
use Rattle.blob_parts.specs.Reading.{took_none, took_both}
use Rattle.blob_parts.specs.Takes.{Took}
use Rattle.index_mounts.specs.Rosters.{MountView, RosterView, IsResolved, mounted, no_mounts}
use Rattle.cache_door.specs.Cores.{state_of, door_of}
use Rattle.cache_door.specs.Machine.{State, age, new_state}
use Rattle.cache_door.specs.Takes.{Once}
use Rattle.cache_reader.specs.Going.{Moment}
use Rattle.cache_reader.specs.MountsOnce.{IsOneOf, IsWholeManifest, manifests_files}
use Rattle.cache_reader.specs.Once.{ByActs}
use Rattle.cache_reader.specs.Reports.{no_bytes}
use Rattle.cache_reader.specs.declared.report.Report.{Report}
use Rattle.cache_reader.proofs.Mounts.{append_left, append_right}
use Rattle.directory_input.specs.Reads as directory
use Rattle.mount_script.specs.declared.command.Command.{Command}
use Rattle.mount_script.specs.declared.command.Command.TheVariants.{Mount, Unmount, Clear, Decay, Stats, Search, Fetch, Read}
use Rattle.mount_script.specs.declared.command.Line.{Line}
use Rattle.mount_script.specs.declared.reply.Reply.{Reply}
use Rattle.mount_script.specs.declared.reply.Reply.TheVariants as reply
use Rattle.shard_replies.specs.ExpectedReplies.{used_name}
use Rattle.script_run.specs.Allowed.{is_memory, some_reply}
use Rattle.script_run.specs.Blocks.{Point, seen, AllShared, Forgotten, forgets_any, LinesWent, SharedWent, MountWent, StatsWent, BlockWent, BlocksWent}
use Rattle.script_run.specs.Bytes.{BytesTook, BlockTook, BlocksTook}
use Rattle.script_run.specs.Lines.{Cached, LineDoes, FilesRead, reading, is_shared}
use Rattle.script_run.specs.MountLines.{MountsOne, RosterGoes}
use Rattle.script_run.specs.Room.{OnceLaws, HasRoom, number_list, mounted_by, mounted_in_block, all_mounted, lets_go, some_clear}
use Rattle.script_run.proofs.Counted.{shared_manifest, lines_counted, block_counted, blocks_counted}
use Rattle.script_run.proofs.Exact.{Quiet, quiet_first, quiet_then, does_state, block_actors}
use Rattle.script_run.proofs.Rosters.{mounted_with}

-- ---- lists

-- what stands in one list behind another stands in one of them
either_at : {X : Type 0} (xs ys : List X) (i : ℕ) (x : X) → slice_get (xs ++ ys) i ≡ Some x → ((j : ℕ) × (slice_get xs j ≡ Some x)) ⊎ ((j : ℕ) × (slice_get ys j ≡ Some x))
either_at [] ys i x h = inr (i, h)
either_at (z ∷ xs) ys zero x h = inl (0, h)
either_at (z ∷ xs) ys (suc i) x h = elim (either_at xs ys i x h) [ inl a ↦ inl (suc a.0, a.1) | inr b ↦ inr b ]

-- ---- mounts

-- a mount of one of these manifests
record MountFits (e : Cached) (ms : List ℕ) (m : MountView) : Type 0 where
  listed : IsOneOf ms m.number
  resolved : IsResolved e.tells e.blobs m.number m.facts m.parts

abbrev RosterFits : Cached → List ℕ → RosterView → Type 0
RosterFits e ms r = (name : List ℕ) (m : MountView) → mounted name r ≡ Some m → MountFits e ms m

whole_of : {e : Cached} {ms : List ℕ} {m : MountView} → OnceLaws e.blobs → IsTrue e.tells → MountFits e ms m → IsWholeManifest e.blobs m.number m.facts
whole_of laws told h = record { told = h.resolved.manifest told; sound = laws.sound _ _ (h.resolved.manifest told); whole = h.resolved.whole told }

-- ---- a line

-- what was taken and what became of the state, between two moments
record Acted (e : Cached) (ms : List ℕ) (x y : Point) : Type 0 where
  taken : List (ℕ × ℕ)
  took : Took x.source.reads y.source.reads taken
  by : ByActs e.blobs e.config (manifests_files e.blobs ms) taken (state_of x.core) (state_of y.core)

some_same : {X : Type 0} (a b : X) → Some a ≡ Some b → a ≡ b
some_same a b k = cc

module _ (e : Cached) (laws : OnceLaws e.blobs) (ms : List ℕ) (limits : IsConfig e.config) (told : IsTrue e.tells) where
  abbrev files : List (ℕ × ℕ)
  files = manifests_files e.blobs ms

  acted_none : (x y : Point) → y.source ≡ x.source → state_of y.core ≡ state_of x.core → Acted e ms x y
  acted_none x y same state = record {
    taken = [];
    took = subst (λ (s : SourceView). Took x.source.reads s.reads []) (sym same) (took_none x.source.reads []);
    by = subst (λ (s : State). ByActs e.blobs e.config files [] (state_of x.core) s) (sym state) (laws.go.none e.blobs e.config files (state_of x.core));
  }

  acted_rest : (report : Report) (x y : Point) → (report ≡ no_bytes) × (seen y.source y.core ≡ seen x.source x.core) → Acted e ms x y
  acted_rest report x y h =
      acted_none x y (ap (λ (m : Moment). m.source) h.1) (some_same (state_of y.core) (state_of x.core) (ap (λ (m : Moment). m.door.state) h.1))

  acted_by_decay : (now : ℕ) (x y : Point) → y.source ≡ x.source → Some (state_of y.core) ≡ Some (age now (state_of x.core)) → Acted e ms x y
  acted_by_decay now x y same state = record {
    taken = [];
    took = subst (λ (s : SourceView). Took x.source.reads s.reads []) (sym same) (took_none x.source.reads []);
    by = subst (λ (s : State). ByActs e.blobs e.config files [] (state_of x.core) s) (sym (some_same (state_of y.core) (age now (state_of x.core)) state))
        (laws.go.decay e.blobs e.config files now (state_of x.core));
  }

  acted_by_reads : (m : MountView) (now : ℕ) (asked : Option (List directory.Read)) (given : Reply) (report : Report) (x y : Point)
      → MountFits e ms m → length x.core.holds ≡ 1 → Quiet false (is_memory given) x y
      → FilesRead (reading e m now) asked given report (seen x.source x.core) (seen y.source y.core) → Acted e ms x y
  acted_by_reads m now asked given report x y fits one quiet h =
      let c = reading e m now in
      let s = state_of x.core in
      let entries = h.through.entries told (h.enough quiet.memory) quiet.source quiet.frames s refl one in
      let number : m.parts.number ≡ m.number = fits.resolved.number in
      let whole : IsWholeManifest e.blobs m.parts.number m.facts = subst (λ (n : ℕ). IsWholeManifest e.blobs n m.facts) (sym number) (whole_of laws told fits) in
      let listed : IsOneOf ms m.parts.number = subst (IsOneOf ms) (sym number) fits.listed in
      let own = laws.go.reads c files h.reads no_bytes report (seen x.source x.core) (seen y.source y.core) s limits
      (laws.fit.lengths c m.facts laws.few whole fits.resolved.lengths) h.through.allowed (laws.fit.among c m.facts ms listed whole fits.resolved.lengths) entries in
      let state : state_of y.core ≡ own.outcome.state = some_same (state_of y.core) own.outcome.state own.has.state in
      record {
        taken = own.outcome.places;
        took = own.has.places;
        by = subst (λ (t : State). ByActs e.blobs e.config files own.outcome.places s t) (sym state) own.by;
      }

  line_acted : (now : ℕ) (c : Command) (o : Option MountView) (given : Reply) (report : Report) (x y : Point)
      → ((m : MountView) → o ≡ Some m → MountFits e ms m) → length x.core.holds ≡ 1 → is_shared c ≡ true → Quiet (lets_go c) (is_memory given) x y
      → LineDoes e now c o given report (seen x.source x.core) (seen y.source y.core) → Acted e ms x y
  line_acted now Decay o given report x y fits one shared quiet h = acted_by_decay now x y h.source h.state
  line_acted now (Mount name manifest) o given report x y fits one shared quiet h = absurd (cc)
  line_acted now Stats o given report x y fits one shared quiet h = absurd (cc)
  line_acted now (Unmount name) o given report x y fits one shared quiet h = let go = quiet.search in absurd (cc)
  line_acted now (Clear name) o given report x y fits one shared quiet h = let go = quiet.search in absurd (cc)
  line_acted now (Search name size text) None given report x y fits one shared quiet h = acted_rest report x y h
  line_acted now (Fetch name segment doc) None given report x y fits one shared quiet h = acted_rest report x y h
  line_acted now (Read name file at len) None given report x y fits one shared quiet h = acted_rest report x y h
  line_acted now (Search name size text) (Some m) given report x y fits one shared quiet h = acted_by_reads m now _ given report x y (fits m refl) one quiet h
  line_acted now (Fetch name segment doc) (Some m) given report x y fits one shared quiet h = acted_by_reads m now _ given report x y (fits m refl) one quiet h
  line_acted now (Read name file at len) (Some m) given report x y fits one shared quiet h = acted_by_reads m now _ given report x y (fits m refl) one quiet h

  acted_more : (x z y : Point) → Acted e ms x z → Acted e ms z y → Acted e ms x y
  acted_more x z y h k = record {
    taken = h.taken ++ k.taken;
    took = took_both x.source.reads z.source.reads y.source.reads h.taken k.taken h.took k.took;
    by = laws.go.more e.blobs e.config files h.taken k.taken (state_of x.core) (state_of z.core) (state_of y.core) h.by k.by;
  }

  lines_acted : (now : ℕ) (r : RosterView) (ls : List Line) (gs : List Reply) (x y : Point)
      → RosterFits e ms r → length x.core.holds ≡ 1 → AllShared ls → Quiet (list_any (λ (l : Line). lets_go l.command) ls) (list_any is_memory gs) x y
      → LinesWent e now r ls gs x y → Acted e ms x y
  lines_acted now r [] [] x y fits one shared quiet h = acted_none x y (ap (λ (p : Point). p.source) h) (ap (λ (p : Point). state_of p.core) h)
  lines_acted now r [] (g ∷ gs) x y fits one shared quiet h = absurd h
  lines_acted now r (l ∷ ls) [] x y fits one shared quiet h = absurd h
  lines_acted now r (l ∷ ls) (g ∷ gs) x y fits one shared quiet h =
      let z = h.0 in
      let k = list_any (λ (l : Line). lets_go l.command) ls in
      let counted = (lines_counted e now r ls gs z y told h.2).counting in
      acted_more x z y
      (line_acted now l.command (mounted (used_name l.command) r) g h.1.report x z (λ m is. fits (used_name l.command) m is) one shared.0
      (quiet_first (lets_go l.command) k (is_memory g) (list_any is_memory gs) x z y counted.faults counted.frames quiet) h.1.does)
      (lines_acted now r ls gs z y fits (h.1.core.actors ∙ one) shared.1
      (quiet_then (lets_go l.command) k (is_memory g) (list_any is_memory gs) x z y h.1.faults h.1.core.faults quiet) h.2)

-- ---- a block, and what is mounted behind it

no_mount : (blobs : Listing) (c : Command) (x : Reply) → is_shared c ≡ true → mounted_by blobs c x ≡ []
no_mount blobs (Mount name manifest) x s = absurd (cc)
no_mount blobs (Unmount name) x s = refl
no_mount blobs (Clear name) x s = refl
no_mount blobs Decay x s = refl
no_mount blobs Stats x s = refl
no_mount blobs (Search name size text) x s = refl
no_mount blobs (Fetch name segment doc) x s = refl
no_mount blobs (Read name file at len) x s = refl

none_mounted : (blobs : Listing) (ls : List Line) (xs : List Reply) → AllShared ls → mounted_in_block blobs ls xs ≡ []
none_mounted blobs [] xs s = refl
none_mounted blobs (l ∷ ls) [] s = refl
none_mounted blobs (l ∷ ls) (x ∷ xs) s = ap (λ (ms : List ℕ). ms ++ mounted_in_block blobs ls xs) (no_mount blobs l.command x s.0) ∙ none_mounted blobs ls xs s.1

forgotten_fits : (e : Cached) (ms : List ℕ) (block : List Line) (replies : List Reply) (r q : RosterView) → Forgotten block replies r q → RosterFits e ms r → RosterFits e ms q
forgotten_fits e ms block replies r q h fits name m is = by_case (forgets_any block replies name) (sym (h.mounts name) ∙ is)
  where
    by_case : (b : Bool) → cond b None (mounted name r) ≡ Some m → MountFits e ms m
    by_case true k = absurd (cc)
    by_case false k = fits name m k

-- the mount that a line made
one_fits : (e : Cached) (ms : List ℕ) (name manifest : List ℕ) (r q : RosterView) → MountsOne e.tells e.blobs name manifest r q → IsTrue e.tells
    → ((n : ℕ) → manifest_number manifest e.blobs ≡ Some n → IsOneOf ms n) → RosterFits e ms r → RosterFits e ms q
one_fits e ms name manifest r q h told listed fits other m is =
    by_case (bytes_eq name other) (sym (ap (mounted other) h.made ∙ mounted_with name h.number h.facts h.parts r other) ∙ is)
  where
    own : MountView
    own = record { mount = r.made; number = h.number; facts = h.facts; parts = h.parts }

    by_case : (b : Bool) → cond b (Some own) (mounted other r) ≡ Some m → MountFits e ms m
    by_case true k = subst (MountFits e ms) (some_same own m k) (record { listed = listed h.number (h.found told); resolved = h.resolved })
    by_case false k = fits other m k

mount_fits : (e : Cached) (ms : List ℕ) (name manifest : List ℕ) (r q : RosterView) (x : Reply) → RosterGoes e.tells e.blobs name manifest r q x → IsTrue e.tells
    → ((n : ℕ) → IsOneOf (mounted_by e.blobs (Mount name manifest) x) n → IsOneOf ms n) → RosterFits e ms r → RosterFits e ms q
mount_fits e ms name manifest r q (reply.Mounted count docs) h told listed fits =
    one_fits e ms name manifest r q h told (λ n found. listed n (0, ap (λ (o : Option ℕ). slice_get (number_list o) 0) found)) fits
mount_fits e ms name manifest r q reply.Unmounted h told listed fits = subst (RosterFits e ms) (sym h) fits
mount_fits e ms name manifest r q reply.Cleared h told listed fits = subst (RosterFits e ms) (sym h) fits
mount_fits e ms name manifest r q reply.Decayed h told listed fits = subst (RosterFits e ms) (sym h) fits
mount_fits e ms name manifest r q (reply.Hits total shown) h told listed fits = subst (RosterFits e ms) (sym h) fits
mount_fits e ms name manifest r q (reply.Fields fields) h told listed fits = subst (RosterFits e ms) (sym h) fits
mount_fits e ms name manifest r q (reply.Bytes bytes) h told listed fits = subst (RosterFits e ms) (sym h) fits
mount_fits e ms name manifest r q (reply.Stats free listed_regions leaving evictions promotions demotions fetched direct) h told listed fits = subst (RosterFits e ms) (sym h) fits
mount_fits e ms name manifest r q (reply.Refused text) h told listed fits = subst (RosterFits e ms) (sym h) fits
mount_fits e ms name manifest r q reply.Fault h told listed fits = subst (RosterFits e ms) (sym h) fits
mount_fits e ms name manifest r q reply.Gone h told listed fits = subst (RosterFits e ms) (sym h) fits
mount_fits e ms name manifest r q reply.NoMemory h told listed fits = subst (RosterFits e ms) (sym h) fits

-- what a block took and what became of the state; and the roster behind it fits
record BlockActed (e : Cached) (ms : List ℕ) (q : RosterView) (block : List Line) (x y : Point) : Type 0 where
  taken : List (ℕ × ℕ)
  took : BlockTook e.blobs block x.source y.source taken
  by : ByActs e.blobs e.config (manifests_files e.blobs ms) taken (state_of x.core) (state_of y.core)
  fits : RosterFits e ms q

record BlocksActed (e : Cached) (ms : List ℕ) (blocks : List (List Line)) (x y : Point) : Type 0 where
  taken : List (ℕ × ℕ)
  took : BlocksTook e.blobs blocks x.source y.source taken
  by : ByActs e.blobs e.config (manifests_files e.blobs ms) taken (state_of x.core) (state_of y.core)

in_front : (n : ℕ) (xs ys : List ℕ) → IsOneOf xs n → IsOneOf (xs ++ ys) n
in_front n xs ys h = (h.0, append_left xs ys h.0 n h.1)

in_back : (n : ℕ) (xs ys : List ℕ) → IsOneOf ys n → IsOneOf (xs ++ ys) n
in_back n xs ys h = (length xs + h.0, append_right xs ys h.0 n h.1)

both_same : (blobs : Listing) {ls ks : List Line} {gs fs : List Reply} → ls ≡ ks → gs ≡ fs → mounted_in_block blobs ls gs ≡ mounted_in_block blobs ks fs
both_same blobs a b = cc

one_mounted : (e : Cached) (r q : RosterView) (block : List Line) (replies : List Reply) (x y : Point) (h : MountWent e r q block replies x y)
    → mounted_in_block e.blobs block replies ≡ mounted_by e.blobs (Mount h.name h.manifest) h.given
one_mounted e r q block replies x y h = both_same e.blobs h.line h.reply_is ∙ append-nil (mounted_by e.blobs (Mount h.name h.manifest) h.given)

module _ (e : Cached) (laws : OnceLaws e.blobs) (ms : List ℕ) (limits : IsConfig e.config) (told : IsTrue e.tells) where
  rest_by : (x y : Point) → state_of y.core ≡ state_of x.core → ByActs e.blobs e.config (manifests_files e.blobs ms) [] (state_of x.core) (state_of y.core)
  rest_by x y same = subst (λ (s : State). ByActs e.blobs e.config (manifests_files e.blobs ms) [] (state_of x.core) s) (sym same) (laws.go.none e.blobs e.config (manifests_files e.blobs ms) (state_of x.core))

  shared_acted : (now : ℕ) (r q : RosterView) (block : List Line) (replies : List Reply) (x y : Point)
      → RosterFits e ms r → length x.core.holds ≡ 1 → Quiet (list_any (λ (l : Line). lets_go l.command) block) (list_any is_memory replies) x y
      → SharedWent e now r q block replies x y → BlockActed e ms q block x y
  shared_acted now r q block replies x y fits one quiet h =
      let d = lines_acted e laws ms limits told now r block replies x y fits one h.shared quiet h.lines in
      record {
        taken = d.taken;
        took = subst (λ (o : Option (List ℕ)). BytesTook e.blobs o x.source y.source d.taken) (sym (shared_manifest block h.shared)) d.took;
        by = d.by;
        fits = forgotten_fits e ms block replies r q h.forgotten fits;
      }

  mount_acted : (r q : RosterView) (block : List Line) (replies : List Reply) (x y : Point) → RosterFits e ms r
      → ((n : ℕ) → IsOneOf (mounted_in_block e.blobs block replies) n → IsOneOf ms n) → MountWent e r q block replies x y → BlockActed e ms q block x y
  mount_acted r q block replies x y fits listed h =
      let state : Some (state_of y.core) ≡ Some (state_of x.core) = does_state (door_of x.core 0) (door_of y.core 0) h.given h.door in
      let here = one_mounted e r q block replies x y h in
      record {
        taken = [];
        took = subst (λ (ls : List Line). BlockTook e.blobs ls x.source y.source []) (sym h.line) (refl, h.took told);
        by = rest_by x y (some_same (state_of y.core) (state_of x.core) state);
        fits = mount_fits e ms h.name h.manifest r q h.given h.roster told (λ n own. listed n (subst (λ (ks : List ℕ). IsOneOf ks n) (sym here) own)) fits;
      }

  stats_acted : (r q : RosterView) (block : List Line) (replies : List Reply) (x y : Point) → RosterFits e ms r → StatsWent r q block replies x y → BlockActed e ms q block x y
  stats_acted r q block replies x y fits h = record {
    taken = [];
    took = subst (λ (ls : List Line). BlockTook e.blobs ls x.source y.source []) (sym h.line)
        (subst (λ (p : Point). Took x.source.reads p.source.reads []) (sym h.rests) (took_none x.source.reads []));
    by = rest_by x y (ap (λ (p : Point). state_of p.core) h.rests);
    fits = subst (RosterFits e ms) (sym h.roster) fits;
  }

  block_acted : (now : ℕ) (r q : RosterView) (block : List Line) (replies : List Reply) (x y : Point)
      → RosterFits e ms r → length x.core.holds ≡ 1 → ((n : ℕ) → IsOneOf (mounted_in_block e.blobs block replies) n → IsOneOf ms n)
      → Quiet (list_any (λ (l : Line). lets_go l.command) block) (list_any is_memory replies) x y → BlockWent e now r q block replies x y → BlockActed e ms q block x y
  block_acted now r q block replies x y fits one listed quiet (inl h) = shared_acted now r q block replies x y fits one quiet h
  block_acted now r q block replies x y fits one listed quiet (inr (inl h)) = mount_acted r q block replies x y fits listed h
  block_acted now r q block replies x y fits one listed quiet (inr (inr h)) = stats_acted r q block replies x y fits h

  blocks_acted : (ns : List ℕ) (r q : RosterView) (bs : List (List Line)) (gss : List (List Reply)) (x y : Point)
      → RosterFits e ms r → length x.core.holds ≡ 1 → ((n : ℕ) → IsOneOf (all_mounted e.blobs bs gss) n → IsOneOf ms n)
      → Quiet (some_clear bs) (some_reply is_memory gss) x y → BlocksWent e ns r q bs gss x y → BlocksActed e ms bs x y
  blocks_acted [] r q [] [] x y fits one listed quiet h =
      record { taken = []; took = (ap (λ (p : Point). p.source) h.1, refl); by = rest_by x y (ap (λ (p : Point). state_of p.core) h.1) }
  blocks_acted [] r q [] (g ∷ gss) x y fits one listed quiet h = absurd h
  blocks_acted [] r q (b ∷ bs) gss x y fits one listed quiet h = absurd h
  blocks_acted (n ∷ ns) r q [] gss x y fits one listed quiet h = absurd h
  blocks_acted (n ∷ ns) r q (b ∷ bs) [] x y fits one listed quiet h = absurd h
  blocks_acted (n ∷ ns) r q (b ∷ bs) (g ∷ gss) x y fits one listed quiet h =
      let t = h.0 in
      let z = h.1 in
      let k = list_any (λ (l : Line). lets_go l.command) b in
      let m = list_any is_memory g in
      let before = (block_counted e n r t b g x z told h.2).counting in
      let behind = (blocks_counted e ns t q bs gss z y told h.3).counting in
      let first = block_acted n r t b g x z fits one (λ i own. listed i (in_front i (mounted_in_block e.blobs b g) (all_mounted e.blobs bs gss) own))
      (quiet_first k (some_clear bs) m (some_reply is_memory gss) x z y behind.faults behind.frames quiet) h.2 in
      let rest = blocks_acted ns t q bs gss z y first.fits (block_actors e n r t b g x z h.2 ∙ one)
      (λ i own. listed i (in_back i (mounted_in_block e.blobs b g) (all_mounted e.blobs bs gss) own))
      (quiet_then k (some_clear bs) m (some_reply is_memory gss) x z y before.faults before.frames quiet) h.3 in
      record {
        taken = first.taken ++ rest.taken;
        took = (z.source, first.taken, rest.taken, first.took, rest.took, refl);
        by = laws.go.more e.blobs e.config (manifests_files e.blobs ms) first.taken rest.taken (state_of x.core) (state_of z.core) (state_of y.core) first.by rest.by;
      }

-- ---- manifests that were mounted

abbrev WholeAt : Cached → ℕ → Type 0
WholeAt e n = (facts : Facts) × IsWholeManifest e.blobs n facts

one_whole : AreSound → (e : Cached) (name manifest : List ℕ) (r q : RosterView) (x : Reply) → RosterGoes e.tells e.blobs name manifest r q x → IsTrue e.tells
    → (n : ℕ) → IsOneOf (mounted_by e.blobs (Mount name manifest) x) n → WholeAt e n
one_whole sound e name manifest r q (reply.Mounted files docs) h told n at =
    let found : manifest_number manifest e.blobs ≡ Some h.number = h.found told in
    let there : slice_get (h.number ∷ []) at.0 ≡ Some n = subst (λ (o : Option ℕ). slice_get (number_list o) at.0 ≡ Some n) found at.1 in
    subst (WholeAt e) (only h.number n at.0 there) (h.facts, record { told = h.resolved.manifest told; sound = sound _ _ (h.resolved.manifest told); whole = h.resolved.whole told })
  where
    only : (k n i : ℕ) → slice_get (k ∷ []) i ≡ Some n → k ≡ n
    only k n zero e = cc
    only k n (suc i) e = absurd (cc)
one_whole sound e name manifest r q reply.Unmounted h told n at = absurd (let there = at.1 in cc)
one_whole sound e name manifest r q reply.Cleared h told n at = absurd (let there = at.1 in cc)
one_whole sound e name manifest r q reply.Decayed h told n at = absurd (let there = at.1 in cc)
one_whole sound e name manifest r q (reply.Hits total shown) h told n at = absurd (let there = at.1 in cc)
one_whole sound e name manifest r q (reply.Fields fields) h told n at = absurd (let there = at.1 in cc)
one_whole sound e name manifest r q (reply.Bytes bytes) h told n at = absurd (let there = at.1 in cc)
one_whole sound e name manifest r q (reply.Stats free listed leaving evictions promotions demotions fetched direct) h told n at = absurd (let there = at.1 in cc)
one_whole sound e name manifest r q (reply.Refused text) h told n at = absurd (let there = at.1 in cc)
one_whole sound e name manifest r q reply.Fault h told n at = absurd (let there = at.1 in cc)
one_whole sound e name manifest r q reply.Gone h told n at = absurd (let there = at.1 in cc)
one_whole sound e name manifest r q reply.NoMemory h told n at = absurd (let there = at.1 in cc)

no_such : (n : ℕ) (ms : List ℕ) → ms ≡ [] → IsOneOf ms n → ⊥
no_such n ms e h = empty h.0 (subst (λ (ks : List ℕ). slice_get ks h.0 ≡ Some n) e h.1)
  where
    empty : (i : ℕ) → slice_get [] i ≡ Some n → ⊥
    empty i there = absurd (cc)

stats_mounted : (e : Cached) (r q : RosterView) (block : List Line) (replies : List Reply) (x y : Point) → StatsWent r q block replies x y → mounted_in_block e.blobs block replies ≡ []
stats_mounted e r q block replies x y h = both_same e.blobs h.line h.reply_is

block_whole : AreSound → (e : Cached) (now : ℕ) (r q : RosterView) (block : List Line) (replies : List Reply) (x y : Point) → IsTrue e.tells → BlockWent e now r q block replies x y
    → (n : ℕ) → IsOneOf (mounted_in_block e.blobs block replies) n → WholeAt e n
block_whole sound e now r q block replies x y told (inl h) n at = absurd (no_such n (mounted_in_block e.blobs block replies) (none_mounted e.blobs block replies h.shared) at)
block_whole sound e now r q block replies x y told (inr (inl h)) n at =
    one_whole sound e h.name h.manifest r q h.given h.roster told n (subst (λ (ks : List ℕ). IsOneOf ks n) (one_mounted e r q block replies x y h) at)
block_whole sound e now r q block replies x y told (inr (inr h)) n at = absurd (no_such n (mounted_in_block e.blobs block replies) (stats_mounted e r q block replies x y h) at)

blocks_whole : AreSound → (e : Cached) (ns : List ℕ) (r q : RosterView) (bs : List (List Line)) (gss : List (List Reply)) (x y : Point) → IsTrue e.tells → BlocksWent e ns r q bs gss x y
    → (n : ℕ) → IsOneOf (all_mounted e.blobs bs gss) n → WholeAt e n
blocks_whole sound e [] r q [] [] x y told h n at = absurd (let there = at.1 in cc)
blocks_whole sound e [] r q [] (g ∷ gss) x y told h n at = absurd h
blocks_whole sound e [] r q (b ∷ bs) gss x y told h n at = absurd h
blocks_whole sound e (m ∷ ns) r q [] gss x y told h n at = absurd h
blocks_whole sound e (m ∷ ns) r q (b ∷ bs) [] x y told h n at = absurd h
blocks_whole sound e (m ∷ ns) r q (b ∷ bs) (g ∷ gss) x y told h n at = elim (either_at (mounted_in_block e.blobs b g) (all_mounted e.blobs bs gss) at.0 n at.1) [
  | inl a ↦ block_whole sound e m r h.0 b g x h.1 told h.2 n a
  | inr c ↦ blocks_whole sound e ns h.0 q bs gss h.1 y told h.3 n c
]

-- ---- the law

-- no place of a part is taken twice
pub taken_once : (e : Cached) → OnceLaws e.blobs → (ns : List ℕ) (q : RosterView) (bs : List (List Line)) (gss : List (List Reply)) (x y : Point) (told : Bool) (frames : List (List ℕ))
    → IsConfig e.config → e.config.max_freq < 4294967296 → IsTrue e.tells → state_of x.core ≡ new_state e.config told frames 1 → length frames ≡ e.config.regions
    → Quiet (some_clear bs) (some_reply is_memory gss) x y → HasRoom e (all_mounted e.blobs bs gss) → BlocksWent e ns no_mounts q bs gss x y
    → (places : List (ℕ × ℕ)) × BlocksTook e.blobs bs x.source y.source places × Once (λ blob. true) places
taken_once e laws ns q bs gss x y told frames limits small tells first count quiet room h =
    let ms = all_mounted e.blobs bs gss in
    let one : length x.core.holds ≡ 1 = ap (λ (s : State). length s.holds) first in
    let d = blocks_acted e laws ms limits tells ns no_mounts q bs gss x y (λ name m is. absurd (cc)) one (λ n own. own) quiet h in
    let by : ByActs e.blobs e.config (manifests_files e.blobs ms) d.taken (new_state e.config told frames 1) (state_of y.core) =
    subst (λ (s : State). ByActs e.blobs e.config (manifests_files e.blobs ms) d.taken s (state_of y.core)) first d.by in
    (d.taken, d.took, laws.once e.config told frames e.blobs ms d.taken (state_of y.core) limits small count room.regions (blocks_whole laws.sound e ns no_mounts q bs gss x y tells h) room.apart by)
