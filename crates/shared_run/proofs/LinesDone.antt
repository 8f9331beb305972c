-- A worker's lines, one line more.
use Rattle.std.proofs.Common.{◌≡◌, ◌∙◌, ◌≤◌, ◌+◌, ◌*◌, ◌-◌, ◌^◌, ℕ, Bool, true, false, cond, List, [], ◌∷◌, ◌++◌, length, min, sym, subst, ap, refl, inl, inr, arith}
use Rattle.std.specs.Prelude.{IsTrue, Option, Some, None, ◌||◌, ◌&&◌, ◌==◌, count_by, codes}
use Rattle.std.specs.List.{list_any}
use Rattle.std.proofs.Math.Nat.{le_refl, le_trans}
use Rattle.std.proofs.lemmas.List.{length-append}
use Rattle.std.proofs.lemmas.List.Folds.{list_any-append}
use Rattle.std.proofs.lemmas.List.Sums.{sum_by_push}
use Rattle.byte_text.specs.Counts.{Rose}
use Rattle.directory_input.specs.Reads as directory
use Rattle.region_ranges.specs.declared.keys.Config.{Config}
use Rattle.cache_outside.specs.Listing.{Listing}
use Rattle.cache_outside.specs.Sources.{SourceView}
use Rattle.blob_parts.specs.Takes.{SourceLater, Took}
use Rattle.blob_parts.specs.Reading.{took_none, took_both, rose_first, rose_then}
use Rattle.index_mounts.specs.Rosters.{MountView, RosterView, mounted}
use Rattle.cache_door.specs.declared.work.Work.{Work}
use Rattle.cache_door.specs.Doors.{Grown, Rises, Works, no_work, with_mount}
use Rattle.cache_reader.specs.declared.report.Report.{Report}
use Rattle.cache_reader.specs.Bounds.{Bounded}
use Rattle.cache_reader.specs.Reports.{Grew}
use Rattle.cache_reader.specs.Through.{grew_more}
use Rattle.cache_reader.specs.Going.{Moment}
use Rattle.mount_script.specs.declared.command.Command.{Command}
use Rattle.mount_script.specs.declared.command.Command.TheVariants.{Mount, Unmount, Clear, Decay, Stats, Search, Fetch, Read}
use Rattle.mount_script.specs.declared.command.Line.{Line}
use Rattle.mount_script.specs.declared.reply.Reply.{Reply}
use Rattle.mount_script.specs.declared.reply.Reply.TheVariants as reply
use Rattle.shard_replies.specs.Answers.{HasHits, HasFields, HasBytes}
use Rattle.shard_replies.specs.ExpectedReplies.{expected_reply, used_name, refused}
use Rattle.script_run.specs.Mounting.{mounts_of}
use Rattle.script_run.specs.Allowed.{reads_files, is_fault, is_memory, Bears}
use Rattle.script_run.proofs.Blocks.{bears_one}
use Rattle.script_run.specs.Lines.{is_shared, Cached, cached, reading, IsAnswer, IsMarked, IsOrNoMemory, HasKind, FilesKind, FilesRead, LineDoes}
use Rattle.shared_run.specs.Workers.{ReplyKind, MarkSeen, LineAnswered, AllAnswered, is_decayed, is_cleared, has_number, unmounts, unmounted_by, LinesTook, LineWorks, LinesDid}

-- ---- replies

mark_seen : (c : Command) (m : Option MountView) (y z : Moment) (x : Reply) → IsMarked c m y z x → MarkSeen c m z.door.seen_gone x
mark_seen c m y z reply.Fault h = h.0
mark_seen c m y z reply.Gone h = (h.reads, record { mount = h.mount; is = h.is; gone = h.seen })
mark_seen c m y z x h = tt {0}

mark_grown : (c : Command) (m : Option MountView) (f g : ℕ → Bool) (x : Reply) → Grown f g → MarkSeen c m f x → MarkSeen c m g x
mark_grown c m f g reply.Fault k h = h
mark_grown c m f g reply.Gone k h = (h.0, record { mount = h.1.mount; is = h.1.is; gone = k h.1.mount.mount h.1.gone })
mark_grown c m f g x k h = tt {0}

module _ (tells : Bool) (blobs : Listing) (r : RosterView) where
  pub answered_grown : (f g : ℕ → Bool) (ls : List Line) (xs : List Reply) → Grown f g → AllAnswered tells blobs r f ls xs → AllAnswered tells blobs r g ls xs
  answered_grown f g [] [] k h = tt {0}
  answered_grown f g [] (x ∷ xs) k h = absurd h
  answered_grown f g (l ∷ ls) [] k h = absurd h
  answered_grown f g (l ∷ ls) (x ∷ xs) k h =
      (record { told = h.0.told; mark = mark_grown l.command (mounted (used_name l.command) r) f g x k h.0.mark; kind = h.0.kind }, answered_grown f g ls xs k h.1)

  answered_more : (f : ℕ → Bool) (ls : List Line) (xs : List Reply) (l : Line) (x : Reply) → AllAnswered tells blobs r f ls xs → LineAnswered tells blobs r f l.command x
      → AllAnswered tells blobs r f (ls ++ l ∷ []) (xs ++ x ∷ [])
  answered_more f [] [] l x h one = (one, tt {0})
  answered_more f [] (y ∷ xs) l x h one = absurd h
  answered_more f (k ∷ ls) [] l x h one = absurd h
  answered_more f (k ∷ ls) (y ∷ xs) l x h one = (h.0, answered_more f ls xs l x h.1 one)

  unmounted_more : (f : ℕ → Bool) (ls : List Line) (xs : List Reply) (l : Line) (x : Reply) (n : ℕ) (b : Bool) → AllAnswered tells blobs r f ls xs
      → (unmounted_by r (ls ++ l ∷ []) (xs ++ x ∷ []) n || b) ≡ (unmounts r l.command x n || (unmounted_by r ls xs n || b))
  unmounted_more f [] [] l x n b h = or_false (unmounts r l.command x n) b
    where
      or_false : (p q : Bool) → ((p || false) || q) ≡ (p || q)
      or_false true q = refl
      or_false false q = refl
  unmounted_more f [] (y ∷ xs) l x n b h = absurd h
  unmounted_more f (k ∷ ls) [] l x n b h = absurd h
  unmounted_more f (k ∷ ls) (y ∷ xs) l x n b h =
      first (unmounts r k.command y n) (unmounted_by r (ls ++ l ∷ []) (xs ++ x ∷ []) n) (unmounted_by r ls xs n) (unmounts r l.command x n) (unmounted_more f ls xs l x n b h.1)
    where
      first : (p q s t : Bool) → (q || b) ≡ (t || (s || b)) → ((p || q) || b) ≡ (t || ((p || s) || b))
      first true q s true e = refl
      first true q s false e = refl
      first false q s t e = e

-- ---- counts

counted : (f : Reply → Bool) (xs : List Reply) (x : Reply) → count_by f (xs ++ x ∷ []) ≡ count_by f xs + cond (f x) 1 0
counted f xs x = sum_by_push (λ (y : Reply). cond (f y) 1 0) xs x

any_more : (f : Reply → Bool) (xs : List Reply) (x : Reply) → list_any f (xs ++ x ∷ []) ≡ false → (list_any f xs ≡ false) × (f x ≡ false)
any_more f xs x h = split (list_any f xs) (f x) (sym (list_any-append f xs (x ∷ [])) ∙ h)
  where
    split : (p q : Bool) → (p || (q || false)) ≡ false → (p ≡ false) × (q ≡ false)
    split true q e = absurd (cc)
    split false true e = absurd (cc)
    split false false e = (refl, refl)

bears_on : (n before mid now : ℕ) → Bears n before mid → mid ≤ now → Bears (n + 0) before now
bears_on n before mid now b r = omega (arith, b, r)

bears_more : (n before mid now : ℕ) (x : Reply) → Bears n before mid → (x ≡ reply.Fault → Rose mid now) → mid ≤ now → Bears (n + cond (is_fault x) 1 0) before now
bears_more n before mid now reply.Fault b r later = bears_one n before mid now b (r refl)
bears_more n before mid now x b r later = bears_on n before mid now b later

pub grew_by : (a b n : ℕ) → Rises a b n → Grew a b n
grew_by a b n h = let p = h.value in record { later = h.later; most = omega (arith, p); whole = λ below. omega (arith, p, below) }

pub same_grew : (a b n : ℕ) → b ≡ a → n ≡ 0 → Grew a b n
same_grew a b n e z = record { later = omega (arith, e); most = omega (arith, e); whole = λ below. omega (arith, e, z) }

-- ---- what was taken

pub bounded_on : (range : ℕ) (a b c : Work) (m n : ℕ) → a.stored ≤ b.stored → b.stored ≤ c.stored → b.turned_away ≤ c.turned_away → Bounded range a b m → Bounded range b c n → Bounded range a c (m + n)
bounded_on range a b c m n up s t h k = λ below fewer.
    let first = h (omega (arith, s, below)) (omega (arith, t, fewer)) in
    let then = k below fewer in
    (omega (arith, first.0, then.0), sums (2 * range * a.turned_away) (2 * range * b.turned_away) (2 * range * c.turned_away) a.stored b.stored c.stored m n first.1 then.1)
  where
    sums : (x y z p q s m n : ℕ) → p + m + x ≤ q + y → q + n + y ≤ s + z → p + (m + n) + x ≤ s + z
    sums x y z p q s m n f g = omega (arith, f, g)

bounded_none : (range : ℕ) (a b : Work) → Grew a.stored b.stored 0 → Grew a.turned_away b.turned_away 0 → Bounded range a b 0
bounded_none range a b s t = λ below fewer.
    let p = s.whole below in let q = t.whole fewer in
    let same : b.stored ≡ a.stored = omega (arith, p) in
    let turned : b.turned_away ≡ a.turned_away = omega (arith, q) in
    (omega (arith, same), least (2 * range * a.turned_away) (2 * range * b.turned_away) a.stored b.stored same (ap (λ (n : ℕ). 2 * range * n) turned))
  where
    least : (x y p q : ℕ) → q ≡ p → y ≡ x → p + 0 + x ≤ q + y
    least x y p q e f = omega (arith, e, f)

pub took_on : (range : ℕ) (first then both : Bool) (x y z : Moment) → (both ≡ false → (first ≡ false) × (then ≡ false)) → x.source.faults ≤ y.source.faults → y.source.faults ≤ z.source.faults
    → x.door.work.stored ≤ y.door.work.stored → y.door.work.stored ≤ z.door.work.stored → y.door.work.turned_away ≤ z.door.work.turned_away
    → LinesTook range first x y → LinesTook range then y z → LinesTook range both x z
took_on range first then both x y z lacks up on s u t h k = record {
  places = h.places ++ k.places;
  took = took_both x.source.reads y.source.reads z.source.reads h.places k.places h.took k.took;
  bound = λ enough calm.
      let e = lacks enough in
      let m = h.bound e.0 (λ rose. calm (rose_first x.source.faults y.source.faults z.source.faults on rose)) in
      let n = k.bound e.1 (λ rose. calm (rose_then x.source.faults y.source.faults z.source.faults up rose)) in
      subst (Bounded range x.door.work z.door.work) (sym (length-append h.places k.places)) (bounded_on range x.door.work y.door.work z.door.work (length h.places) (length k.places) s u t m n);
}

took_nothing : (range : ℕ) (lacks : Bool) (y z : Moment) → z.source ≡ y.source → Grew y.door.work.stored z.door.work.stored 0 → Grew y.door.work.turned_away z.door.work.turned_away 0 → LinesTook range lacks y z
took_nothing range lacks y z e s t = record {
  places = [];
  took = subst (λ (b : SourceView). Took y.source.reads b.reads []) (sym e) (took_none y.source.reads []);
  bound = λ enough calm. bounded_none range y.door.work z.door.work s t;
}

-- ---- one line

-- a reply that says of no decay, clear or unmount
record IsQuiet (x : Reply) : Type 0 where
  decays : is_decayed x ≡ false
  clears : is_cleared x ≡ false
  mounts : (r : RosterView) (c : Command) (n : ℕ) → unmounts r c x n ≡ false

hits_quiet : (x : Reply) → HasHits x → IsQuiet x
hits_quiet (reply.Mounted files docs) h = absurd h
hits_quiet reply.Unmounted h = absurd h
hits_quiet reply.Cleared h = absurd h
hits_quiet reply.Decayed h = absurd h
hits_quiet x h = record { decays = refl; clears = refl; mounts = λ r c n. refl }

fields_quiet : (x : Reply) → HasFields x → IsQuiet x
fields_quiet (reply.Mounted files docs) h = absurd h
fields_quiet reply.Unmounted h = absurd h
fields_quiet reply.Cleared h = absurd h
fields_quiet reply.Decayed h = absurd h
fields_quiet x h = record { decays = refl; clears = refl; mounts = λ r c n. refl }

bytes_quiet : (x : Reply) → HasBytes x → IsQuiet x
bytes_quiet (reply.Mounted files docs) h = absurd h
bytes_quiet reply.Unmounted h = absurd h
bytes_quiet reply.Cleared h = absurd h
bytes_quiet reply.Decayed h = absurd h
bytes_quiet x h = record { decays = refl; clears = refl; mounts = λ r c n. refl }

files_quiet : (c : Command) (x : Reply) → IsTrue (reads_files c) → FilesKind c x → IsQuiet x
files_quiet (Mount name manifest) x f h = absurd (cc)
files_quiet (Unmount name) x f h = absurd (cc)
files_quiet (Clear name) x f h = absurd (cc)
files_quiet Decay x f h = absurd (cc)
files_quiet Stats x f h = absurd (cc)
files_quiet (Search name size text) x f h = by_reply x h
  where
    by_reply : (x : Reply) → FilesKind (Search name size text) x → IsQuiet x
    by_reply reply.Fault h = record { decays = refl; clears = refl; mounts = λ r c n. refl }
    by_reply reply.Gone h = record { decays = refl; clears = refl; mounts = λ r c n. refl }
    by_reply reply.NoMemory h = record { decays = refl; clears = refl; mounts = λ r c n. refl }
    by_reply x h = hits_quiet x h
files_quiet (Fetch name segment doc) x f h = by_reply x h
  where
    by_reply : (x : Reply) → FilesKind (Fetch name segment doc) x → IsQuiet x
    by_reply reply.Fault h = record { decays = refl; clears = refl; mounts = λ r c n. refl }
    by_reply reply.Gone h = record { decays = refl; clears = refl; mounts = λ r c n. refl }
    by_reply reply.NoMemory h = record { decays = refl; clears = refl; mounts = λ r c n. refl }
    by_reply x h = fields_quiet x h
files_quiet (Read name file at len) x f h = by_reply x h
  where
    by_reply : (x : Reply) → FilesKind (Read name file at len) x → IsQuiet x
    by_reply reply.Fault h = record { decays = refl; clears = refl; mounts = λ r c n. refl }
    by_reply reply.Gone h = record { decays = refl; clears = refl; mounts = λ r c n. refl }
    by_reply reply.NoMemory h = record { decays = refl; clears = refl; mounts = λ r c n. refl }
    by_reply x h = bytes_quiet x h

refused_quiet : (text : List ℕ) (x : Reply) → IsOrNoMemory (refused text) x → IsQuiet x
refused_quiet text x (inl e) = subst IsQuiet (sym e) (record { decays = refl; clears = refl; mounts = λ r c n. refl })
refused_quiet text x (inr e) = subst IsQuiet (sym e) (record { decays = refl; clears = refl; mounts = λ r c n. refl })

module _ (range : ℕ) (tells : Bool) (r : RosterView) (c : Command) (y z : Moment) where
  quiet_mounts : (x : Reply) → IsQuiet x → ((n : ℕ) → z.door.unmounted n ≡ y.door.unmounted n) → (n : ℕ) → z.door.unmounted n ≡ (unmounts r c x n || y.door.unmounted n)
  quiet_mounts x q same n = same n ∙ ap (λ (b : Bool). b || y.door.unmounted n) (sym (q.mounts r c n))

  no_count : (a b : ℕ) (flag : Bool) → b ≡ a → flag ≡ false → Grew a b (cond flag 1 0)
  no_count a b flag e q = same_grew a b (cond flag 1 0) e (ap (λ (f : Bool). cond f 1 0) q)

  rests : (x : Reply) → IsQuiet x → z ≡ y → LineWorks range tells r c x y z
  rests x q e = record {
    decays = no_count _ _ (is_decayed x) (ap (λ (m : Moment). m.door.work.decays) e) q.decays;
    clears = no_count _ _ (is_cleared x) (ap (λ (m : Moment). m.door.work.clears) e) q.clears;
    stored = subst (λ (m : Moment). y.door.work.stored ≤ m.door.work.stored) (sym e) (le_refl y.door.work.stored);
    turned = subst (λ (m : Moment). y.door.work.turned_away ≤ m.door.work.turned_away) (sym e) (le_refl y.door.work.turned_away);
    unmounted = quiet_mounts x q (λ n. ap (λ (m : Moment). m.door.unmounted n) e);
    took = λ t. took_nothing range (is_memory x) y z (ap (λ (m : Moment). m.source) e)
        (same_grew _ _ 0 (ap (λ (m : Moment). m.door.work.stored) e) refl) (same_grew _ _ 0 (ap (λ (m : Moment). m.door.work.turned_away) e) refl);
  }

  reads : (e : Cached) (m : MountView) (now : ℕ) (asked : Option (List directory.Read)) (x : Reply) (report : Report) → e.config.range ≡ range → e.tells ≡ tells → IsQuiet x
      → FilesRead (reading e m now) asked x report y z → LineWorks range tells r c x y z
  reads e m now asked x report wide told q h =
      let g = h.through.goes in
      record {
        decays = no_count _ _ (is_decayed x) g.work.decays q.decays;
        clears = no_count _ _ (is_cleared x) g.work.clears q.clears;
        stored = g.work.stored.later;
        turned = g.work.turned;
        unmounted = quiet_mounts x q (λ n. ap (λ (f : ℕ → Bool). f n) g.unmounted);
        took = λ t. (let k = h.through.takes (told ∙ t) in record {
          places = k.places;
          took = k.took;
          bound = λ enough calm. subst (λ (n : ℕ). Bounded n y.door.work z.door.work (length k.places)) wide (k.bound (h.enough enough) calm);
        });
      }

  -- one call of the door that reads nothing
  asks : (work : Work) (mounts : ℕ → Bool) (x : Reply) → z.source ≡ y.source → Works y.door.work z.door.work work → ((n : ℕ) → z.door.unmounted n ≡ mounts n)
      → work.stored ≡ 0 → work.turned_away ≡ 0 → work.decays ≡ cond (is_decayed x) 1 0 → work.clears ≡ cond (is_cleared x) 1 0
      → ((n : ℕ) → mounts n ≡ (unmounts r c x n || y.door.unmounted n)) → LineWorks range tells r c x y z
  asks work mounts x same w set s t d k m = record {
    decays = subst (Grew y.door.work.decays z.door.work.decays) d (grew_by _ _ _ w.decays);
    clears = subst (Grew y.door.work.clears z.door.work.clears) k (grew_by _ _ _ w.clears);
    stored = w.stored.later;
    turned = w.turned_away.later;
    unmounted = λ n. set n ∙ m n;
    took = λ h. took_nothing range (is_memory x) y z same (subst (Grew y.door.work.stored z.door.work.stored) s (grew_by _ _ _ w.stored)) (subst (Grew y.door.work.turned_away z.door.work.turned_away) t (grew_by _ _ _ w.turned_away));
  }

module _ (tells : Bool) (blobs : Listing) (config : Config) (r : RosterView) (now : ℕ) (report : Report) (y z : Moment) where
  set_or : (b p : Bool) → cond b true p ≡ (b || p)
  set_or true p = refl
  set_or false p = refl

  by_reply : (c : Command) (x w : Reply) → x ≡ w → LineWorks config.range tells r c w y z → LineWorks config.range tells r c x y z
  by_reply c x w e = subst (λ (u : Reply). LineWorks config.range tells r c u y z) (sym e)

  pub line_works : (c : Command) (o : Option MountView) (x : Reply) → is_shared c ≡ true → mounted (used_name c) r ≡ o → HasKind c o x → LineDoes (cached tells blobs config) now c o x report y z
      → LineWorks config.range tells r c x y z
  line_works (Mount name manifest) o x shared is kind h = absurd (cc)
  line_works Stats o x shared is kind h = absurd (cc)
  line_works Decay o x shared is kind h = by_reply Decay x reply.Decayed kind
      (asks config.range tells r Decay y z (record no_work { decays = 1 }) y.door.unmounted reply.Decayed h.source h.works h.mounts refl refl refl refl (λ n. refl))
  line_works (Unmount name) None x shared is kind h = rests config.range tells r (Unmount name) y z x (refused_quiet (codes "not mounted") x kind) h.1
  line_works (Clear name) None x shared is kind h = rests config.range tells r (Clear name) y z x (refused_quiet (codes "not mounted") x kind) h.1
  line_works (Search name size text) None x shared is kind h = rests config.range tells r (Search name size text) y z x (refused_quiet (codes "not mounted") x kind) h.1
  line_works (Fetch name segment doc) None x shared is kind h = rests config.range tells r (Fetch name segment doc) y z x (refused_quiet (codes "not mounted") x kind) h.1
  line_works (Read name file at len) None x shared is kind h = rests config.range tells r (Read name file at len) y z x (refused_quiet (codes "not mounted") x kind) h.1
  line_works (Clear name) (Some m) x shared is kind h = by_reply (Clear name) x reply.Cleared kind
      (asks config.range tells r (Clear name) y z (record no_work { clears = 1 }) y.door.unmounted reply.Cleared h.source h.works h.mounts refl refl refl refl (λ n. refl))
  line_works (Unmount name) (Some m) x shared is kind h = by_reply (Unmount name) x reply.Unmounted kind
      (asks config.range tells r (Unmount name) y z no_work (with_mount m.mount y.door.unmounted) reply.Unmounted h.source h.works h.mounts refl refl refl refl
      (λ n. set_or (n == m.mount) (y.door.unmounted n) ∙ ap (λ (k : Option MountView). has_number n k || y.door.unmounted n) (sym is)))
  line_works (Search name size text) (Some m) x shared is kind h = reads config.range tells r (Search name size text) y z (cached tells blobs config) m now _ x report refl refl (files_quiet (Search name size text) x refl kind) h
  line_works (Fetch name segment doc) (Some m) x shared is kind h = reads config.range tells r (Fetch name segment doc) y z (cached tells blobs config) m now _ x report refl refl (files_quiet (Fetch name segment doc) x refl kind) h
  line_works (Read name file at len) (Some m) x shared is kind h = reads config.range tells r (Read name file at len) y z (cached tells blobs config) m now _ x report refl refl (files_quiet (Read name file at len) x refl kind) h

  -- a line that is refused, and asks for nothing
  pub refused_works : (c : Command) (text : List ℕ) (x : Reply) → IsOrNoMemory (refused text) x → z ≡ y → LineWorks config.range tells r c x y z
  refused_works c text x kind e = rests config.range tells r c y z x (refused_quiet text x kind) e

  -- the same lines and one more
  pub line_did : (ls : List Line) (xs : List Reply) (l : Line) (x : Reply) (p : Moment) → LinesDid (cached tells blobs config) r ls xs p y
      → y.door.frames_tell ≡ p.door.frames_tell → Grown y.door.seen_gone z.door.seen_gone
      → IsAnswer (tells && y.door.frames_tell) (expected_reply blobs (mounts_of r) l.command) x
      → IsMarked l.command (mounted (used_name l.command) r) y z x
      → ReplyKind l.command (mounted (used_name l.command) r) x
      → SourceLater y.source z.source (x ≡ reply.Fault)
      → LineWorks config.range tells r l.command x y z
      → LinesDid (cached tells blobs config) r (ls ++ l ∷ []) (xs ++ x ∷ []) p z
  line_did ls xs l x p h tell grown told mark kind source w =
      let own : IsAnswer (tells && p.door.frames_tell) (expected_reply blobs (mounts_of r) l.command) x =
      subst (λ (b : Bool). IsAnswer (tells && b) (expected_reply blobs (mounts_of r) l.command) x) tell told in
      let f = z.door.seen_gone in
      record {
        answered = answered_more (tells && p.door.frames_tell) blobs r f ls xs l x (answered_grown (tells && p.door.frames_tell) blobs r y.door.seen_gone f ls xs grown h.answered)
            (record { told = own; mark = mark_seen l.command (mounted (used_name l.command) r) y z x mark; kind = kind });
        bears = subst (λ (n : ℕ). Bears n p.source.faults z.source.faults) (sym (counted is_fault xs x))
            (bears_more (count_by is_fault xs) p.source.faults y.source.faults z.source.faults x h.bears source.failed source.later);
        faults = le_trans h.faults source.later;
        identity = source.identity ∙ h.identity;
        seen = λ n g. grown n (h.seen n g);
        unmounted = λ n. w.unmounted n ∙ ap (λ (b : Bool). unmounts r l.command x n || b) (h.unmounted n)
            ∙ sym (unmounted_more (tells && p.door.frames_tell) blobs r y.door.seen_gone ls xs l x n (p.door.unmounted n) h.answered);
        decays = subst (Grew p.door.work.decays z.door.work.decays) (sym (counted is_decayed xs x)) (grew_more _ _ _ (count_by is_decayed xs) (cond (is_decayed x) 1 0) h.decays w.decays);
        clears = subst (Grew p.door.work.clears z.door.work.clears) (sym (counted is_cleared xs x)) (grew_more _ _ _ (count_by is_cleared xs) (cond (is_cleared x) 1 0) h.clears w.clears);
        stored = le_trans h.stored w.stored;
        turned = le_trans h.turned w.turned;
        took = λ t. took_on config.range (list_any is_memory xs) (is_memory x) (list_any is_memory (xs ++ x ∷ [])) p y z (any_more is_memory xs x) h.faults source.later
            h.stored w.stored w.turned (h.took t) (w.took t);
      }

pub no_lines : (tells : Bool) (blobs : Listing) (config : Config) (r : RosterView) (y : Moment) → LinesDid (cached tells blobs config) r [] [] y y
no_lines tells blobs config r y = record {
  answered = tt {0};
  bears = none y.source.faults;
  faults = le_refl y.source.faults;
  identity = refl;
  seen = λ n h. h;
  unmounted = λ n. refl;
  decays = same_grew _ _ 0 refl refl;
  clears = same_grew _ _ 0 refl refl;
  stored = le_refl y.door.work.stored;
  turned = le_refl y.door.work.turned_away;
  took = λ t. took_nothing config.range false y y refl (same_grew _ _ 0 refl refl) (same_grew _ _ 0 refl refl);
}
  where
    none : (n : ℕ) → min (n + 0) (2 ^ 64 - 1) ≤ n
    none n = omega arith

pub did_as : (e : Cached) (r : RosterView) (ls ms : List Line) (xs ys : List Reply) (p y z : Moment) → ms ≡ ls → ys ≡ xs → z ≡ y → LinesDid e r ls xs p y → LinesDid e r ms ys p z
did_as e r ls ms xs ys p y z f g k h =
    subst (λ (m : List Line). LinesDid e r m ys p z) (sym f) (subst (λ (m : List Reply). LinesDid e r ls m p z) (sym g) (subst (λ (m : Moment). LinesDid e r ls xs p m) (sym k) h))
