-- The bytes that the lines of a run took, counted.
use Rattle.std.proofs.Common.{◌≡◌, ◌∙◌, ◌<◌, ◌≤◌, ◌+◌, ◌-◌, ◌^◌, ℕ, Bool, true, false, List, [], ◌∷◌, ◌++◌, length, sym, subst, ap, refl, inl, inr, arith}
use Rattle.std.specs.Prelude.{IsTrue, Option, Some, None, ◌||◌}
use Rattle.std.specs.List.{list_any}
use Rattle.std.proofs.Math.Nat.{le_refl, le_trans}
use Rattle.std.proofs.lemmas.List.{length-append, append-nil}
use Rattle.std.proofs.lemmas.Bool.{or_parts}
use Rattle.byte_text.specs.Counts.{Rose}
use Rattle.cache_outside.specs.Listing.{Listing}
use Rattle.cache_outside.specs.Sources.{SourceView}
use Rattle.blob_parts.specs.Takes.{Took}
use Rattle.blob_parts.specs.Reading.{took_none, took_both, rose_first, rose_then}
use Rattle.index_mounts.specs.Rosters.{MountView, RosterView, mounted}
use Rattle.cache_door.specs.Cores.{all_faults}
use Rattle.cache_reader.specs.declared.report.Report.{Report}
use Rattle.cache_reader.specs.Reports.{no_bytes}
use Rattle.cache_reader.specs.Parts.{ReadSetting}
use Rattle.cache_reader.specs.Going.{Moment}
use Rattle.directory_input.specs.Reads as directory
use Rattle.mount_script.specs.declared.command.Command.{Command}
use Rattle.mount_script.specs.declared.command.Command.TheVariants.{Mount, Unmount, Clear, Decay, Stats, Search, Fetch, Read}
use Rattle.mount_script.specs.declared.command.Line.{Line}
use Rattle.mount_script.specs.declared.reply.Reply.{Reply}
use Rattle.mount_script.specs.declared.reply.Reply.TheVariants as reply
use Rattle.shard_replies.specs.ExpectedReplies.{used_name}
use Rattle.script_run.specs.declared.sums.Sums.{Sums}
use Rattle.script_run.specs.Allowed.{is_memory, some_reply}
use Rattle.script_run.specs.Bytes.{manifest_named, manifest_read, BytesTook, BlockTook, BlocksTook, StatsCounted, OfLast}
use Rattle.script_run.specs.Counters.{all_replies}
use Rattle.script_run.specs.Lines.{Cached, FilesRead, LineDoes, is_shared}
use Rattle.script_run.specs.MountLines.{MountKind}
use Rattle.script_run.specs.Blocks.{Point, seen, AllShared, NoStats, LineWent, LinesWent, SharedWent, MountWent, StatsWent, BlockWent, BlocksWent}

-- Between two moments of a run no count fell; and where no memory was wanted (`lacks`) and no count of failures rose, the sums rose by so many bytes together.
pub record Counting (lacks : Bool) (n : ℕ) (x y : Point) : Type 0 where
  pub faults : x.source.faults ≤ y.source.faults
  pub frames : all_faults x.core.cells ≤ all_faults y.core.cells
  pub fetched : x.sums.fetched ≤ y.sums.fetched
  pub direct : x.sums.direct ≤ y.sums.direct
  pub counted : lacks ≡ false → (Rose x.source.faults y.source.faults → ⊥) → (Rose (all_faults x.core.cells) (all_faults y.core.cells) → ⊥)
      → y.sums.fetched < 2 ^ 64 - 1 → y.sums.direct < 2 ^ 64 - 1 → y.sums.fetched + y.sums.direct ≡ x.sums.fetched + x.sums.direct + n

pub counting_none : (lacks : Bool) (x : Point) → Counting lacks 0 x x
counting_none lacks x = record {
  faults = le_refl x.source.faults;
  frames = le_refl (all_faults x.core.cells);
  fetched = le_refl x.sums.fetched;
  direct = le_refl x.sums.direct;
  counted = λ a b c d f. omega arith;
}

pub counting_more : (k l : Bool) (m n : ℕ) (x y z : Point) → Counting k m x y → Counting l n y z → Counting (k || l) (m + n) x z
counting_more k l m n x y z h j = record {
  faults = le_trans h.faults j.faults;
  frames = le_trans h.frames j.frames;
  fetched = le_trans h.fetched j.fetched;
  direct = le_trans h.direct j.direct;
  counted = λ none calm still f d.
      let apart = or_parts k l none in
      let fetched : y.sums.fetched < 2 ^ 64 - 1 = omega (arith, j.fetched, f) in
      let direct : y.sums.direct < 2 ^ 64 - 1 = omega (arith, j.direct, d) in
      let first = h.counted apart.0 (λ r. calm (rose_first x.source.faults y.source.faults z.source.faults j.faults r))
      (λ r. still (rose_first (all_faults x.core.cells) (all_faults y.core.cells) (all_faults z.core.cells) j.frames r)) fetched direct in
      let then = j.counted apart.1 (λ r. calm (rose_then x.source.faults y.source.faults z.source.faults h.faults r))
      (λ r. still (rose_then (all_faults x.core.cells) (all_faults y.core.cells) (all_faults z.core.cells) h.frames r)) f d in
      omega (arith, first, then);
}

-- ---- a line

-- what the reads of a line took: as many as its report counts
record LineTook (given : Reply) (report : Report) (x y : Moment) : Type 0 where
  places : List (ℕ × ℕ)
  took : Took x.source.reads y.source.reads places
  counted : is_memory given ≡ false → (Rose x.source.faults y.source.faults → ⊥) → (Rose x.door.frame_faults y.door.frame_faults → ⊥)
      → report.fetched < 2 ^ 64 - 1 → report.direct < 2 ^ 64 - 1 → length places ≡ report.fetched + report.direct

took_no_bytes : (given : Reply) (report : Report) (x y : Moment) → report ≡ no_bytes → y.source ≡ x.source → LineTook given report x y
took_no_bytes given report x y none same = record {
  places = [];
  took = subst (λ (s : SourceView). Took x.source.reads s.reads []) (sym same) (took_none x.source.reads []);
  counted = λ a b c d f. sym (ap (λ (n : Report). n.fetched + n.direct) none);
}

took_by_reads : (c : ReadSetting) (asked : Option (List directory.Read)) (given : Reply) (report : Report) (x y : Moment) → IsTrue c.tells → FilesRead c asked given report x y → LineTook given report x y
took_by_reads c asked given report x y told h =
    let t = h.through.takes told in
    record {
      places = t.places;
      took = t.took;
      counted = λ none calm still f d.
          let own = t.counted (h.enough none) calm still in
          let fetched = h.through.total.fetched.whole f in
          let direct = h.through.total.direct.whole d in
          omega (arith, own, fetched, direct);
    }

line_took : (e : Cached) (now : ℕ) (c : Command) (o : Option MountView) (given : Reply) (report : Report) (x y : Moment) → IsTrue e.tells → LineDoes e now c o given report x y → LineTook given report x y
line_took e now Decay o given report x y told h = took_no_bytes given report x y h.report_is h.source
line_took e now (Mount name manifest) None given report x y told h = took_no_bytes given report x y h.0 (ap (λ (m : Moment). m.source) h.1)
line_took e now (Unmount name) None given report x y told h = took_no_bytes given report x y h.0 (ap (λ (m : Moment). m.source) h.1)
line_took e now (Clear name) None given report x y told h = took_no_bytes given report x y h.0 (ap (λ (m : Moment). m.source) h.1)
line_took e now Stats None given report x y told h = took_no_bytes given report x y h.0 (ap (λ (m : Moment). m.source) h.1)
line_took e now (Search name size text) None given report x y told h = took_no_bytes given report x y h.0 (ap (λ (m : Moment). m.source) h.1)
line_took e now (Fetch name segment doc) None given report x y told h = took_no_bytes given report x y h.0 (ap (λ (m : Moment). m.source) h.1)
line_took e now (Read name file at len) None given report x y told h = took_no_bytes given report x y h.0 (ap (λ (m : Moment). m.source) h.1)
line_took e now (Clear name) (Some m) given report x y told h = took_no_bytes given report x y h.report_is h.source
line_took e now (Unmount name) (Some m) given report x y told h = took_no_bytes given report x y h.report_is h.source
line_took e now (Mount name manifest) (Some m) given report x y told h = took_by_reads _ _ given report x y told h
line_took e now Stats (Some m) given report x y told h = took_by_reads _ _ given report x y told h
line_took e now (Search name size text) (Some m) given report x y told h = took_by_reads _ _ given report x y told h
line_took e now (Fetch name segment doc) (Some m) given report x y told h = took_by_reads _ _ given report x y told h
line_took e now (Read name file at len) (Some m) given report x y told h = took_by_reads _ _ given report x y told h

-- what was taken between two moments, in places
pub record PlacesTook (lacks : Bool) (x y : Point) : Type 0 where
  pub places : List (ℕ × ℕ)
  pub took : Took x.source.reads y.source.reads places
  pub counting : Counting lacks (length places) x y

line_counted : (e : Cached) (now : ℕ) (r : RosterView) (c : Command) (given : Reply) (x y : Point) → IsTrue e.tells → LineWent e now r c given x y → PlacesTook (is_memory given) x y
line_counted e now r c given x y told h =
    let t = line_took e now c (mounted (used_name c) r) given h.report (seen x.source x.core) (seen y.source y.core) told h.does in
    record {
      places = t.places;
      took = t.took;
      counting = record {
        faults = h.faults;
        frames = h.core.faults;
        fetched = h.sums.fetched.later;
        direct = h.sums.direct.later;
        counted = λ none calm still f d.
            let fetched = h.sums.fetched.whole f in
            let direct = h.sums.direct.whole d in
            let few : h.report.fetched < 2 ^ 64 - 1 = omega (arith, fetched, f) in
            let also : h.report.direct < 2 ^ 64 - 1 = omega (arith, direct, d) in
            let own = t.counted none calm still few also in
            omega (arith, own, fetched, direct);
      };
    }

pub lines_counted : (e : Cached) (now : ℕ) (r : RosterView) (ls : List Line) (gs : List Reply) (x y : Point) → IsTrue e.tells → LinesWent e now r ls gs x y → PlacesTook (list_any is_memory gs) x y
lines_counted e now r [] [] x y told h =
    subst (PlacesTook false x) (sym h) (record { places = []; took = took_none x.source.reads []; counting = counting_none false x })
lines_counted e now r [] (g ∷ gs) x y told h = absurd h
lines_counted e now r (l ∷ ls) [] x y told h = absurd h
lines_counted e now r (l ∷ ls) (g ∷ gs) x y told h =
    let z = h.0 in
    let first = line_counted e now r l.command g x z told h.1 in
    let rest = lines_counted e now r ls gs z y told h.2 in
    record {
      places = first.places ++ rest.places;
      took = took_both x.source.reads z.source.reads y.source.reads first.places rest.places first.took rest.took;
      counting = subst (λ (n : ℕ). Counting (is_memory g || list_any is_memory gs) n x y) (sym (length-append first.places rest.places))
          (counting_more (is_memory g) (list_any is_memory gs) (length first.places) (length rest.places) x z y first.counting rest.counting);
    }

-- ---- a block

not_mount : (c : Command) → is_shared c ≡ true → manifest_named c ≡ None
not_mount (Mount name manifest) s = absurd (cc)
not_mount (Unmount name) s = refl
not_mount (Clear name) s = refl
not_mount Decay s = refl
not_mount Stats s = refl
not_mount (Search name size text) s = refl
not_mount (Fetch name segment doc) s = refl
not_mount (Read name file at len) s = refl

pub shared_manifest : (ls : List Line) → AllShared ls → manifest_read ls ≡ None
shared_manifest [] s = refl
shared_manifest (l ∷ []) s = not_mount l.command s.0
shared_manifest (l ∷ m ∷ ls) s = refl

-- what a block took of parts
pub record BlockCounted (blobs : Listing) (block : List Line) (replies : List Reply) (x y : Point) : Type 0 where
  pub places : List (ℕ × ℕ)
  pub took : BlockTook blobs block x.source y.source places
  pub counting : Counting (list_any is_memory replies) (length places) x y

shared_counted : (e : Cached) (now : ℕ) (r q : RosterView) (block : List Line) (replies : List Reply) (x y : Point) → IsTrue e.tells → SharedWent e now r q block replies x y → BlockCounted e.blobs block replies x y
shared_counted e now r q block replies x y told h =
    let t = lines_counted e now r block replies x y told h.lines in
    record {
      places = t.places;
      took = subst (λ (o : Option (List ℕ)). BytesTook e.blobs o x.source y.source t.places) (sym (shared_manifest block h.shared)) t.took;
      counting = t.counting;
    }

mount_counted : (e : Cached) (r q : RosterView) (block : List Line) (replies : List Reply) (x y : Point) → IsTrue e.tells → MountWent e r q block replies x y → BlockCounted e.blobs block replies x y
mount_counted e r q block replies x y told h = record {
  places = [];
  took = subst (λ (ls : List Line). BlockTook e.blobs ls x.source y.source []) (sym h.line) (refl, h.took told);
  counting = record {
    faults = h.faults;
    frames = h.core.faults;
    fetched = let same = ap (λ (s : Sums). s.fetched) h.sums in omega (arith, same);
    direct = let same = ap (λ (s : Sums). s.direct) h.sums in omega (arith, same);
    counted = λ none calm still f d.
        let fetched = ap (λ (s : Sums). s.fetched) h.sums in
        let direct = ap (λ (s : Sums). s.direct) h.sums in
        omega (arith, fetched, direct);
  };
}

stats_counted : (e : Cached) (r q : RosterView) (block : List Line) (replies : List Reply) (x y : Point) → StatsWent r q block replies x y → BlockCounted e.blobs block replies x y
stats_counted e r q block replies x y h = subst (BlockCounted e.blobs block replies x) (sym h.rests) (record {
  places = [];
  took = subst (λ (ls : List Line). BlockTook e.blobs ls x.source x.source []) (sym h.line) (took_none x.source.reads []);
  counting = counting_none (list_any is_memory replies) x;
})

pub block_counted : (e : Cached) (now : ℕ) (r q : RosterView) (block : List Line) (replies : List Reply) (x y : Point) → IsTrue e.tells → BlockWent e now r q block replies x y → BlockCounted e.blobs block replies x y
block_counted e now r q block replies x y told (inl h) = shared_counted e now r q block replies x y told h
block_counted e now r q block replies x y told (inr (inl h)) = mount_counted e r q block replies x y told h
block_counted e now r q block replies x y told (inr (inr h)) = stats_counted e r q block replies x y h

-- ---- a run

-- what blocks took of parts
pub record BlocksCounted (blobs : Listing) (blocks : List (List Line)) (replies : List (List Reply)) (x y : Point) : Type 0 where
  pub places : List (ℕ × ℕ)
  pub took : BlocksTook blobs blocks x.source y.source places
  pub counting : Counting (some_reply is_memory replies) (length places) x y

pub blocks_counted : (e : Cached) (ns : List ℕ) (r q : RosterView) (bs : List (List Line)) (gss : List (List Reply)) (x y : Point) → IsTrue e.tells → BlocksWent e ns r q bs gss x y
    → BlocksCounted e.blobs bs gss x y
blocks_counted e [] r q [] [] x y told h =
    subst (BlocksCounted e.blobs [] [] x) (sym h.1) (record { places = []; took = (refl, refl); counting = counting_none false x })
blocks_counted e [] r q [] (g ∷ gss) x y told h = absurd h
blocks_counted e [] r q (b ∷ bs) gss x y told h = absurd h
blocks_counted e (n ∷ ns) r q [] gss x y told h = absurd h
blocks_counted e (n ∷ ns) r q (b ∷ bs) [] x y told h = absurd h
blocks_counted e (n ∷ ns) r q (b ∷ bs) (g ∷ gss) x y told h =
    let z = h.1 in
    let first = block_counted e n r h.0 b g x z told h.2 in
    let rest = blocks_counted e ns h.0 q bs gss z y told h.3 in
    record {
      places = first.places ++ rest.places;
      took = (z.source, first.places, rest.places, first.took, rest.took, refl);
      counting = subst (λ (n : ℕ). Counting (list_any is_memory g || some_reply is_memory gss) n x y) (sym (length-append first.places rest.places))
          (counting_more (list_any is_memory g) (some_reply is_memory gss) (length first.places) (length rest.places) x z y first.counting rest.counting);
    }

-- ---- the last reply

none_counted : (n : ℕ) (xs : List Reply) → NoStats xs → OfLast (StatsCounted n) xs
none_counted n [] h = tt {0}
none_counted n (reply.Stats free listed leaving evictions promotions demotions fetched direct ∷ xs) h = absurd h
none_counted n (x ∷ []) h = only x h
  where
    only : (y : Reply) → NoStats (y ∷ []) → StatsCounted n y
    only (reply.Stats free listed leaving evictions promotions demotions fetched direct) k = absurd k
    only y k = tt {0}
none_counted n (x ∷ y ∷ xs) h = none_counted n (y ∷ xs) h

last_more : (P : Reply → Type 0) (xs ys : List Reply) → (ys ≡ [] → OfLast P xs) → OfLast P ys → OfLast P (xs ++ ys)
last_more P xs [] first rest = subst (OfLast P) (sym (append-nil xs)) (first refl)
last_more P [] (y ∷ ys) first rest = rest
last_more P (x ∷ []) (y ∷ ys) first rest = rest
last_more P (x ∷ z ∷ xs) (y ∷ ys) first rest = last_more P (z ∷ xs) (y ∷ ys) (λ e. absurd (cc)) rest

no_front : {X : Type 0} (xs ys : List X) → xs ++ ys ≡ [] → (xs ≡ []) × (ys ≡ [])
no_front [] ys h = (refl, h)
no_front (x ∷ xs) ys h = absurd (cc)

lines_rest : (e : Cached) (now : ℕ) (r : RosterView) (ls : List Line) (x y : Point) → LinesWent e now r ls [] x y → y ≡ x
lines_rest e now r [] x y h = h
lines_rest e now r (l ∷ ls) x y h = absurd h

block_rests : (e : Cached) (now : ℕ) (r q : RosterView) (block : List Line) (replies : List Reply) (x y : Point) → replies ≡ [] → BlockWent e now r q block replies x y → y ≡ x
block_rests e now r q block replies x y none (inl h) = lines_rest e now r block x y (subst (λ (gs : List Reply). LinesWent e now r block gs x y) none h.lines)
block_rests e now r q block replies x y none (inr (inl h)) = let is = h.reply_is in absurd (cc)
block_rests e now r q block replies x y none (inr (inr h)) = let is = h.reply_is in absurd (cc)

-- where no block has a reply, nothing changed
blocks_rest : (e : Cached) (ns : List ℕ) (r q : RosterView) (bs : List (List Line)) (gss : List (List Reply)) (x y : Point) → all_replies gss ≡ [] → BlocksWent e ns r q bs gss x y → y ≡ x
blocks_rest e [] r q [] [] x y none h = h.1
blocks_rest e [] r q [] (g ∷ gss) x y none h = absurd h
blocks_rest e [] r q (b ∷ bs) gss x y none h = absurd h
blocks_rest e (n ∷ ns) r q [] gss x y none h = absurd h
blocks_rest e (n ∷ ns) r q (b ∷ bs) [] x y none h = absurd h
blocks_rest e (n ∷ ns) r q (b ∷ bs) (g ∷ gss) x y none h =
    let apart = no_front g (all_replies gss) none in
    blocks_rest e ns h.0 q bs gss h.1 y apart.1 h.3 ∙ block_rests e n r h.0 b g x h.1 apart.0 h.2

last_of_block : (e : Cached) (now : ℕ) (r q : RosterView) (block : List Line) (replies : List Reply) (x y : Point) (n : ℕ) → BlockWent e now r q block replies x y
    → (y.sums.fetched < 2 ^ 64 - 1 → y.sums.direct < 2 ^ 64 - 1 → n ≡ y.sums.fetched + y.sums.direct) → OfLast (StatsCounted n) replies
last_of_block e now r q block replies x y n (inl h) fits = none_counted n replies h.stats
last_of_block e now r q block replies x y n (inr (inl h)) fits = subst (OfLast (StatsCounted n)) (sym h.reply_is) (by_kind h.given h.kind)
  where
    by_kind : (g : Reply) → MountKind g → OfLast (StatsCounted n) (g ∷ [])
    by_kind (reply.Stats free listed leaving evictions promotions demotions fetched direct) k = absurd k
    by_kind g k = tt {0}
last_of_block e now r q block replies x y n (inr (inr h)) fits =
    let own = subst (λ (p : Point). p.sums.fetched < 2 ^ 64 - 1 → p.sums.direct < 2 ^ 64 - 1 → n ≡ p.sums.fetched + p.sums.direct) h.rests fits in
    subst (OfLast (StatsCounted n)) (sym h.reply_is) own

-- the last reply, if it is one to `stats`, says what was counted
pub last_counted : (e : Cached) (ns : List ℕ) (r q : RosterView) (bs : List (List Line)) (gss : List (List Reply)) (x y : Point) (n : ℕ) → BlocksWent e ns r q bs gss x y
    → (y.sums.fetched < 2 ^ 64 - 1 → y.sums.direct < 2 ^ 64 - 1 → n ≡ y.sums.fetched + y.sums.direct) → OfLast (StatsCounted n) (all_replies gss)
last_counted e [] r q [] [] x y n h fits = tt {0}
last_counted e [] r q [] (g ∷ gss) x y n h fits = absurd h
last_counted e [] r q (b ∷ bs) gss x y n h fits = absurd h
last_counted e (m ∷ ns) r q [] gss x y n h fits = absurd h
last_counted e (m ∷ ns) r q (b ∷ bs) [] x y n h fits = absurd h
last_counted e (m ∷ ns) r q (b ∷ bs) (g ∷ gss) x y n h fits =
    let P : Point → Type 0 = λ p. p.sums.fetched < 2 ^ 64 - 1 → p.sums.direct < 2 ^ 64 - 1 → n ≡ p.sums.fetched + p.sums.direct in
    last_more (StatsCounted n) g (all_replies gss)
    (λ none. last_of_block e m r h.0 b g x h.1 n h.2 (subst P (blocks_rest e ns h.0 q bs gss h.1 y none h.3) fits))
    (last_counted e ns h.0 q bs gss h.1 y n h.3 fits)
