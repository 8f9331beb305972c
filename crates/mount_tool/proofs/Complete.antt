-- A run where nothing fails is complete.
use Rattle.std.proofs.Common.{◌≡◌, ℕ, ◌+◌, ◌∙◌, ◌<◌, ◌≤◌, mod-lt, max, List, [], ◌∷◌, ◌++◌, length, take, ◌&&◌, Bool, true, false, refl, ap, sym, subst, inl, inr, arith}
use Rattle.std.specs.Prelude.{◌%◌, ◌==◌, ◌||◌, ◌⊎◌, nat_lt, IsTrue, Option, Some, Result, Ok, Err, if◌then◌else◌}
use Rattle.std.specs.List.{list_any}
use Rattle.std.proofs.lemmas.Bool.{ltb-false, or_from, or_parts, eq-eqb}
use Rattle.std.proofs.lemmas.List.{append_assoc, append-nil, take_all}
use Rattle.std.proofs.lemmas.List.Folds.{list_any-append}
use Rattle.byte_text.specs.Counts.{Rose}
use Rattle.cache_outside.specs.Listing.{Listing}
use Rattle.cache_outside.specs.Sinks.{behind}
use Rattle.cache_outside.specs.Sources.{SourceView}
use Rattle.cache_table.specs.Views.{PassView}
use Rattle.mount_script.specs.Scripts.{script}
use Rattle.mount_script.specs.declared.command.Command.{Command}
use Rattle.mount_script.specs.declared.command.Command.TheVariants.{Mount, Unmount, Clear, Decay, Stats, Search, Fetch, Read}
use Rattle.mount_script.specs.declared.command.Line.{Line}
use Rattle.mount_script.specs.declared.error.ScriptError.{ScriptError}
use Rattle.mount_script.specs.declared.reply.Reply.{Reply}
use Rattle.mount_script.specs.declared.reply.Reply.TheVariants as reply
use Rattle.run_setup.specs.Texts.{IsRead, most_read}
use Rattle.run_setup.specs.Settings.{config_of}
use Rattle.run_setup.specs.declared.settings.RunSettings.{RunSettings}
use Rattle.shard_replies.specs.ExpectedReplies.{Mounts}
use Rattle.script_run.specs.Mounting.{after_block, nothing_mounted}
use Rattle.script_run.specs.Allowed.{RunSetting, IsPlain, Allowed, AllowedFrom, AllowedRun, near_lines, faults_of, run_faults, Bears, may_be_gone, is_unmount_of, is_fault, is_mark, is_memory, some_reply}
use Rattle.script_run.specs.Blocks.{alone}
use Rattle.script_run.specs.Counters.{CoreNumbers, all_replies}
use Rattle.script_run.specs.Lines.{cached}
use Rattle.script_run.specs.Runs.{IsRun, CoreSeen, HasStats, EndsBy, outside}
use Rattle.script_run.specs.Texts.{run_text}
use Rattle.script_run.specs.declared.ended.Ended.{Ended}
use Rattle.script_run.specs.declared.ended.Ended.TheVariants.{Done, SinkFault, NoMemory}
use Rattle.shared_run.specs.Blocks.{several, source_at}
use Rattle.shared_run.specs.Runs.{IsSharedRun, outsides}
use Rattle.mount_tool.specs.Replies.{run_status}
use Rattle.mount_tool.specs.Calls.{World, first_source, RunEnding, RunEnds, unread, no_script, no_frame, no_room, ran, shared, CallEnds, IsScriptRun}
use Rattle.mount_tool.specs.Complete.{Says, mixes, Steady, NoneFailed, PlainBlock, PlainRun, WroteAll, Completeness}

counted : (q b : Bool) (n : ℕ) → q ≡ true → (if q && b then 1 else 0) + n ≡ 0 → (b ≡ false) × (n ≡ 0)
counted true true n e h = absurd (omega (arith, h))
counted true false n e h = (refl, omega (arith, h))
counted false b n e h = absurd (cc)

rest_none : (c n : ℕ) → c + n ≡ 0 → n ≡ 0
rest_none c n h = omega (arith, h)

-- ---- one line

-- the lines before a line are of its block
fewer : (before rest : List Line) (c : Command) → may_be_gone (before ++ rest) c ≡ false → may_be_gone before c ≡ false
fewer before rest (Search name size text) h = (or_parts (list_any (λ (l : Line). is_unmount_of name l.command) before) (list_any (λ (l : Line). is_unmount_of name l.command) rest) (sym (list_any-append (λ (l : Line). is_unmount_of name l.command) before rest) ∙ h)).0
fewer before rest (Fetch name segment doc) h = (or_parts (list_any (λ (l : Line). is_unmount_of name l.command) before) (list_any (λ (l : Line). is_unmount_of name l.command) rest) (sym (list_any-append (λ (l : Line). is_unmount_of name l.command) before rest) ∙ h)).0
fewer before rest (Read name file at len) h = (or_parts (list_any (λ (l : Line). is_unmount_of name l.command) before) (list_any (λ (l : Line). is_unmount_of name l.command) rest) (sym (list_any-append (λ (l : Line). is_unmount_of name l.command) before rest) ∙ h)).0
fewer before rest c h = refl

plain_reply : (s : RunSetting) (m : Mounts) (near : List Line) (c : Command) (x : Reply) → is_fault x ≡ false → is_memory x ≡ false → may_be_gone near c ≡ false → Allowed s m near c x → IsPlain s m c x
plain_reply s m near c (reply.Mounted files docs) f n g h = h
plain_reply s m near c reply.Unmounted f n g h = h
plain_reply s m near c reply.Cleared f n g h = h
plain_reply s m near c reply.Decayed f n g h = h
plain_reply s m near c (reply.Hits total shown) f n g h = h
plain_reply s m near c (reply.Fields fields) f n g h = h
plain_reply s m near c (reply.Bytes bytes) f n g h = h
plain_reply s m near c (reply.Stats free listed leaving evictions promotions demotions fetched direct) f n g h = h
plain_reply s m near c (reply.Refused text) f n g h = h
plain_reply s m near c reply.Fault f n g h = absurd (cc)
plain_reply s m near c reply.Gone f n g h = let k = subst IsTrue g h in absurd (cc)
plain_reply s m near c reply.NoMemory f n g h = absurd (cc)

unmarked_reply : (s : RunSetting) (m : Mounts) (near : List Line) (c : Command) (x : Reply) → is_fault x ≡ false → may_be_gone near c ≡ false → Allowed s m near c x → is_mark x ≡ false
unmarked_reply s m near c reply.Fault f g h = absurd (cc)
unmarked_reply s m near c reply.Gone f g h = let k = subst IsTrue g h in absurd (cc)
unmarked_reply s m near c x f g h = refl

-- a reply that whole files give does so where less is told
less_reply : (a b : Bool) (blobs : Listing) (w regions : ℕ) (m : Mounts) (c : Command) (x : Reply) → (IsTrue b → IsTrue a) → IsPlain (several a blobs w regions) m c x → IsPlain (several b blobs w regions) m c x
less_reply a b blobs w regions m Stats x less h = h
less_reply a b blobs w regions m (Mount name manifest) x less h = λ t. h (less t)
less_reply a b blobs w regions m (Unmount name) x less h = λ t. h (less t)
less_reply a b blobs w regions m (Clear name) x less h = λ t. h (less t)
less_reply a b blobs w regions m Decay x less h = λ t. h (less t)
less_reply a b blobs w regions m (Search name size text) x less h = λ t. h (less t)
less_reply a b blobs w regions m (Fetch name segment doc) x less h = λ t. h (less t)
less_reply a b blobs w regions m (Read name file at len) x less h = λ t. h (less t)

less_block : (a b : Bool) (blobs : Listing) (w regions : ℕ) (m : Mounts) (ls : List Line) (xs : List Reply) → (IsTrue b → IsTrue a) → PlainBlock (several a blobs w regions) m ls xs → PlainBlock (several b blobs w regions) m ls xs
less_block a b blobs w regions m [] [] less h = h
less_block a b blobs w regions m [] (x ∷ xs) less h = h
less_block a b blobs w regions m (l ∷ ls) [] less h = h
less_block a b blobs w regions m (l ∷ ls) (x ∷ xs) less h = (less_reply a b blobs w regions m l.command x less h.0, less_block a b blobs w regions m ls xs less h.1)

less_run : (a b : Bool) (blobs : Listing) (w regions : ℕ) (m : Mounts) (bs : List (List Line)) (xss : List (List Reply)) → (IsTrue b → IsTrue a) → PlainRun (several a blobs w regions) m bs xss → PlainRun (several b blobs w regions) m bs xss
less_run a b blobs w regions m [] [] less h = h
less_run a b blobs w regions m [] (xs ∷ xss) less h = h
less_run a b blobs w regions m (l ∷ bs) [] less h = h
less_run a b blobs w regions m (l ∷ bs) (xs ∷ xss) less h = (less_block a b blobs w regions m l xs less h.0, less_run a b blobs w regions (after_block blobs l xs m) bs xss less h.1)

-- ---- the lines of a run

module _ (s : RunSetting) (some : 0 < s.workers) where
  -- no line of a source was answered `fault`
  abbrev NoFaults : ℕ → List Reply → Type 0
  NoFaults k xs = (i : ℕ) → i < s.workers → faults_of s.workers i k xs ≡ 0

  first_none : (k : ℕ) (x : Reply) (xs : List Reply) → NoFaults k (x ∷ xs) → is_fault x ≡ false
  first_none k x xs f = (counted (k % s.workers == k % s.workers) (is_fault x) (faults_of s.workers (k % s.workers) (k + 1) xs) (eq-eqb (k % s.workers) (k % s.workers) refl) (f (k % s.workers) (mod-lt k some))).0

  others_none : (k : ℕ) (x : Reply) (xs : List Reply) → NoFaults k (x ∷ xs) → NoFaults (k + 1) xs
  others_none k x xs f i h = rest_none (if (k % s.workers == i) && is_fault x then 1 else 0) (faults_of s.workers i (k + 1) xs) (f i h)

  -- no line that is near unmounts what the line reads
  near_none : (block before ls : List Line) (c : Command) → before ++ ls ≡ block → may_be_gone block c ≡ false → may_be_gone (near_lines s block before) c ≡ false
  near_none block before ls c e g = by_workers (s.workers == 1)
    where
      by_workers : (b : Bool) → may_be_gone (if b then before else block) c ≡ false
      by_workers true = fewer before ls c (ap (λ (b : List Line). may_be_gone b c) e ∙ g)
      by_workers false = g

  plain_from : (m : Mounts) (block before ls : List Line) (xs : List Reply) (k : ℕ) → before ++ ls ≡ block → list_any (λ (l : Line). may_be_gone block l.command) ls ≡ false → NoFaults k xs → list_any is_memory xs ≡ false
      → AllowedFrom s m block before ls xs → PlainBlock s m ls xs
  plain_from m block before [] [] k e g f n h = tt {0}
  plain_from m block before [] (x ∷ xs) k e g f n h = absurd h
  plain_from m block before (l ∷ ls) [] k e g f n h = absurd h
  plain_from m block before (l ∷ ls) (x ∷ xs) k e g f n h =
      let here : may_be_gone block l.command ≡ false = (or_parts (may_be_gone block l.command) (list_any (λ (l : Line). may_be_gone block l.command) ls) g).0 in (
        plain_reply s m (near_lines s block before) l.command x (first_none k x xs f) ((or_parts (is_memory x) (list_any is_memory xs) n).0) (near_none block before (l ∷ ls) l.command e here) h.0,
        plain_from m block (before ++ l ∷ []) ls xs (k + 1) (append_assoc before (l ∷ []) ls ∙ e) ((or_parts (may_be_gone block l.command) (list_any (λ (l : Line). may_be_gone block l.command) ls) g).1)
            (others_none k x xs f) ((or_parts (is_memory x) (list_any is_memory xs) n).1) h.1,
      )

  unmarked_from : (m : Mounts) (block before ls : List Line) (xs : List Reply) (k : ℕ) → before ++ ls ≡ block → list_any (λ (l : Line). may_be_gone block l.command) ls ≡ false → NoFaults k xs
      → AllowedFrom s m block before ls xs → list_any is_mark xs ≡ false
  unmarked_from m block before [] [] k e g f h = refl
  unmarked_from m block before [] (x ∷ xs) k e g f h = absurd h
  unmarked_from m block before (l ∷ ls) [] k e g f h = refl
  unmarked_from m block before (l ∷ ls) (x ∷ xs) k e g f h =
      let here : may_be_gone block l.command ≡ false = (or_parts (may_be_gone block l.command) (list_any (λ (l : Line). may_be_gone block l.command) ls) g).0 in
      or_from (is_mark x) (list_any is_mark xs)
      (unmarked_reply s m (near_lines s block before) l.command x (first_none k x xs f) (near_none block before (l ∷ ls) l.command e here) h.0)
      (unmarked_from m block (before ++ l ∷ []) ls xs (k + 1) (append_assoc before (l ∷ []) ls ∙ e) ((or_parts (may_be_gone block l.command) (list_any (λ (l : Line). may_be_gone block l.command) ls) g).1) (others_none k x xs f) h.1)

  abbrev NoRunFaults : List (List Reply) → Type 0
  NoRunFaults xss = (i : ℕ) → i < s.workers → run_faults s.workers i xss ≡ 0

  block_none : (xs : List Reply) (xss : List (List Reply)) → NoRunFaults (xs ∷ xss) → NoFaults 0 xs
  block_none xs xss f i h = let k = f i h in omega (arith, k)

  blocks_none : (xs : List Reply) (xss : List (List Reply)) → NoRunFaults (xs ∷ xss) → NoRunFaults xss
  blocks_none xs xss f i h = let k = f i h in omega (arith, k)

  plain_run : (m : Mounts) (bs : List (List Line)) (xss : List (List Reply)) → list_any mixes bs ≡ false → NoRunFaults xss → some_reply is_memory xss ≡ false → AllowedRun s m bs xss → PlainRun s m bs xss
  plain_run m [] [] g f n h = tt {0}
  plain_run m [] (xs ∷ xss) g f n h = absurd h
  plain_run m (b ∷ bs) [] g f n h = absurd h
  plain_run m (b ∷ bs) (xs ∷ xss) g f n h = (
    plain_from m b [] b xs 0 refl ((or_parts (mixes b) (list_any mixes bs) g).0) (block_none xs xss f) ((or_parts (list_any is_memory xs) (some_reply is_memory xss) n).0) h.0,
    plain_run (after_block s.blobs b xs m) bs xss ((or_parts (mixes b) (list_any mixes bs) g).1) (blocks_none xs xss f) ((or_parts (list_any is_memory xs) (some_reply is_memory xss) n).1) h.1,
  )

  unmarked_run : (m : Mounts) (bs : List (List Line)) (xss : List (List Reply)) → list_any mixes bs ≡ false → NoRunFaults xss → AllowedRun s m bs xss → some_reply is_mark xss ≡ false
  unmarked_run m [] [] g f h = refl
  unmarked_run m [] (xs ∷ xss) g f h = absurd h
  unmarked_run m (b ∷ bs) [] g f h = refl
  unmarked_run m (b ∷ bs) (xs ∷ xss) g f h =
      or_from (list_any is_mark xs) (some_reply is_mark xss)
      (unmarked_from m b [] b xs 0 refl ((or_parts (mixes b) (list_any mixes bs) g).0) (block_none xs xss f) h.0)
      (unmarked_run (after_block s.blobs b xs m) bs xss ((or_parts (mixes b) (list_any mixes bs) g).1) (blocks_none xs xss f) h.1)

-- ---- counts

no_faults : (n before now : ℕ) → Bears n before now → Steady before now → n ≡ 0
no_faults n before now h k = omega (arith, h, k.0, k.1)

not_rose : (before now : ℕ) → Rose before now → Steady before now → ⊥
not_rose before now h k = omega (arith, h, k.0, k.1)

-- ---- the text

-- a text that is no longer than a script may be is tried last
not_long : (long many : Bool) (e : ScriptError) (rest : Result (List (List Line)) ScriptError) (blocks : List (List Line)) → (if long || many then Err e else rest) ≡ Ok blocks → long ≡ false
not_long true many e rest blocks h = absurd (cc)
not_long false many e rest blocks h = refl

-- all of a script is read
read_whole : (left : Option (List ℕ)) (bytes t : List ℕ) (blocks : List (List Line)) → left ≡ Some bytes → script bytes ≡ Ok blocks → IsRead left t → script t ≡ Ok blocks
read_whole left bytes t blocks told is read =
    let front : t ≡ take most_read bytes = subst (λ (l : Option (List ℕ)). IsRead l t) told read in
    let few = ltb-false 1048576 (length bytes) (not_long (nat_lt 1048576 (length bytes)) _ _ _ blocks is) in
    let whole : length bytes ≤ most_read = omega (arith, few) in
    ap script (front ∙ take_all most_read bytes whole) ∙ is

-- ---- a whole run

and_told : (tells frames told : Bool) → (IsTrue frames → told ≡ true) → IsTrue (tells && frames) → IsTrue (tells && told)
and_told true frames told h t = h t
and_told false frames told h t = t

first_at : (l : List SourceView) → source_at l 0 ≡ first_source l
first_at [] = refl
first_at (a ∷ l) = refl

module _ (tells : Bool) (blobs : Listing) (s : RunSettings) (blocks : List (List Line)) (x y : World) (status : ℕ) where
  -- a run by w workers that came to its end
  module _ (w : ℕ) (own : max 1 s.workers ≡ w) (some : 0 < w) (told : Bool) (tell : IsTrue x.maker.tells → told ≡ true) (is : (marked : Bool) → status ≡ run_status (Done marked) → marked ≡ false → status ≡ 0) where
    done : (marked : Bool) (front rest : List (List Line)) (replies : List (List Reply)) → status ≡ run_status (Done marked) → blocks ≡ front ++ rest
        → AllowedRun (several (tells && told) blobs w s.regions) nothing_mounted front replies → ((i : ℕ) → i < w → run_faults w i replies ≡ 0)
        → EndsBy front rest replies x.sink y.sink (Done marked) → (marked ≡ false → s.workers ≤ 1 → (numbers : CoreNumbers) × HasStats numbers (all_replies replies) (Done false))
        → list_any mixes blocks ≡ false → ((status ≡ 0) × WroteAll tells blobs s blocks x y) ⊎ (status ≡ 6)
    done marked front rest replies ended all allowed few ends stats apart =
        let set = several (tells && told) blobs w s.regions in
        let whole : front ≡ blocks = sym (all ∙ ap (λ (rest : List (List Line)). front ++ rest) ends.0 ∙ append-nil front) in
        let own_allowed : AllowedRun set nothing_mounted blocks replies = subst (λ (b : List (List Line)). AllowedRun set nothing_mounted b replies) whole allowed in
        let unmarked : marked ≡ false = ends.2 ∙ unmarked_run set some nothing_mounted blocks replies apart few own_allowed in
        let plain = less_run (tells && told) (tells && x.maker.tells) blobs w s.regions nothing_mounted blocks replies (and_told tells x.maker.tells told tell)
        (plain_run set some nothing_mounted blocks replies apart few ends.3 own_allowed) in
        inl (
          is marked ended unmarked,
          record {
            replies = replies;
            plain = subst (λ (n : ℕ). PlainRun (several (tells && x.maker.tells) blobs n s.regions) nothing_mounted blocks replies) (sym own) plain;
            written = subst (λ (b : List (List Line)). y.sink.written ≡ behind x.sink.written (run_text b replies)) whole ends.1;
            stats = stats unmarked;
          },
        )

  status_zero : (marked : Bool) → status ≡ run_status (Done marked) → marked ≡ false → status ≡ 0
  status_zero marked is e = is ∙ ap (λ (m : Bool). run_status (Done m)) e

  by_one : (told : Bool) (core : CoreSeen) (ended : Ended) → status ≡ run_status ended → (IsTrue x.maker.tells → told ≡ true)
      → IsRun (cached tells blobs (config_of s)) (alone (tells && told) blobs s.regions) blocks (outside (first_source x.sources) x.sink x.clock) (outside (first_source y.sources) y.sink y.clock) core ended
      → s.workers ≤ 1 → NoneFailed s.workers x y → list_any mixes blocks ≡ false → ((status ≡ 0) × WroteAll tells blobs s blocks x y) ⊎ (status ≡ 6)
  by_one told core SinkFault is tell r one none apart = absurd (not_rose x.sink.faults y.sink.faults r.ends.1 none.sink)
  by_one told core NoMemory is tell r one none apart = inr is
  by_one told core (Done marked) is tell r one none apart =
      let own : max 1 s.workers ≡ 1 = omega (arith, one) in
      let within : 0 < max 1 s.workers = omega (arith, own) in
      let calm : Steady (first_source x.sources).faults (first_source y.sources).faults =
      subst (λ (b : SourceView). Steady (first_source x.sources).faults b.faults) (first_at y.sources)
      (subst (λ (a : SourceView). Steady a.faults (source_at y.sources 0).faults) (first_at x.sources) (none.sources 0 within)) in
      let few : run_faults 1 0 r.replies ≡ 0 = no_faults (run_faults 1 0 r.replies) (first_source x.sources).faults (first_source y.sources).faults r.bears calm in
      done 1 own (omega arith) told tell status_zero marked r.blocks r.rest r.replies is r.all r.allowed
      (λ i h. (let zero : i ≡ 0 = omega (arith, h) in subst (λ (i : ℕ). run_faults 1 i r.replies ≡ 0) (sym zero) few)) r.ends
      (λ unmarked one. (core.numbers, subst (λ (m : Bool). HasStats core.numbers (all_replies r.replies) (Done m)) unmarked r.stats)) apart

  by_several : (told : Bool) (first last : PassView) (ended : Ended) → status ≡ run_status ended → (IsTrue x.maker.tells → told ≡ true)
      → IsSharedRun (cached tells blobs (config_of s)) (several (tells && told) blobs s.workers s.regions) blocks (outsides x.sources x.sink x.clock) (outsides y.sources y.sink y.clock) first last ended
      → 1 < s.workers → NoneFailed s.workers x y → list_any mixes blocks ≡ false → ((status ≡ 0) × WroteAll tells blobs s blocks x y) ⊎ (status ≡ 6)
  by_several told first last SinkFault is tell r some none apart = absurd (not_rose x.sink.faults y.sink.faults r.ends.1 none.sink)
  by_several told first last NoMemory is tell r some none apart = inr is
  by_several told first last (Done marked) is tell r some none apart =
      let own : max 1 s.workers ≡ s.workers = omega (arith, some) in
      done s.workers own (omega (arith, some)) told tell status_zero marked r.blocks r.rest r.replies is r.all r.allowed
      (λ i h. no_faults (run_faults s.workers i r.replies) (source_at x.sources i).faults (source_at y.sources i).faults (r.bears i) (none.sources i (subst (λ (n : ℕ). i < n) (sym own) h))) r.ends
      (λ unmarked one. absurd (omega (arith, some, one))) apart

  by_ending : (ending : RunEnding) → RunEnds tells blobs s x y ending status → Says x.text blocks → NoneFailed s.workers x y → list_any mixes blocks ≡ false
      → ((status ≡ 0) × WroteAll tells blobs s blocks x y) ⊎ (status ≡ 6)
  by_ending unread h says none apart = absurd (not_rose x.text.faults y.text.faults h.1 none.text)
  by_ending (no_script t e) h says none apart = let k : script t ≡ Ok blocks = read_whole x.text.left says.bytes t blocks says.told says.script_of h.0 in let j : script t ≡ Err e = h.1 in absurd (cc)
  by_ending (no_frame t b) h says none apart = absurd (not_rose x.maker.faults y.maker.faults h.2 none.maker)
  by_ending no_room h says none apart = inr h.0
  by_ending (ran t b told core ended) h says none apart =
      let k : script t ≡ Ok blocks = read_whole x.text.left says.bytes t blocks says.told says.script_of h.0.0 in
      let j : script t ≡ Ok b = h.0.1 in
      let same : b ≡ blocks = cc in
      by_one told core ended h.1 h.2.tell
      (subst (λ (c : List (List Line)). IsRun (cached tells blobs (config_of s)) (alone (tells && told) blobs s.regions) c (outside (first_source x.sources) x.sink x.clock) (outside (first_source y.sources) y.sink y.clock) core ended) same h.3)
      h.4 none apart
  by_ending (shared t b told first last ended) h says none apart =
      let k : script t ≡ Ok blocks = read_whole x.text.left says.bytes t blocks says.told says.script_of h.0.0 in
      let j : script t ≡ Ok b = h.0.1 in
      let same : b ≡ blocks = cc in
      by_several told first last ended h.1 h.2
      (subst (λ (c : List (List Line)). IsSharedRun (cached tells blobs (config_of s)) (several (tells && told) blobs s.workers s.regions) c (outsides x.sources x.sink x.clock) (outsides y.sources y.sink y.clock) first last ended) same h.3)
      h.4 none apart

pub complete : Completeness
complete tells blobs words s blocks x y status call asked says none apart =
    let r : IsScriptRun tells blobs s x y status = subst (λ c. CallEnds tells blobs c x y status) asked call in
    by_ending tells blobs s blocks x y status r.ending r.ends says none apart
