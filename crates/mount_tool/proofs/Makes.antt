-- The command `make`: what is made is few manifests within the limits, and how its run ends.
use Rattle.std.proofs.Common.{◌≡◌, ℕ, zero, suc, ◌<◌, ◌≤◌, ◌+◌, ◌*◌, ◌==◌, take, List, [], ◌∷◌, ◌++◌, length, map, Bool, true, false, refl, ap, subst, ◌∙◌, inl, inr, arith}
use Rattle.std.specs.Prelude.{filter, nat_lt, codes, slice_get, Some, None, Ok, if◌then◌else◌}
use Rattle.std.specs.Fmt.{decimal}
use Rattle.std.proofs.lemmas.Bool.{and_parts, leb-true}
use Rattle.std.proofs.lemmas.Bool.Decides.{nat_tests}
use Rattle.byte_text.specs.Counts.{Rose}
use Rattle.cache_outside.specs.Listing.{Listing, is_manifest, is_manifest_name, manifests}
use Rattle.cache_outside.specs.Sources.{SourceView}
use Rattle.cache_outside.specs.Frames.{MakerView}
use Rattle.cache_outside.specs.Sinks.{SinkView}
use Rattle.cache_outside.specs.Clocks.{ClockView}
use Rattle.mount_manifest.specs.Parts.{parts_of}
use Rattle.mount_script.specs.declared.command.Line.{Line}
use Rattle.mount_script.specs.Scripts.{script}
use Rattle.run_setup.specs.declared.make_settings.MakeSettings.{MakeSettings}
use Rattle.run_setup.specs.Settings.{in_limits}
use Rattle.run_setup.specs.MakeSettings.{can_be_made}
use Rattle.shard_maker.specs.Cuts.{part_blob}
use Rattle.shard_maker.specs.Made.{AreLimits, IsMadeArchive, made_file}
use Rattle.shard_maker.specs.Searches.{made_script}
use Rattle.run_setup.specs.Settings.{config_of}
use Rattle.script_run.specs.Blocks.{alone}
use Rattle.script_run.specs.Runs.{Outside, outside, IsRun}
use Rattle.script_run.specs.declared.ended.Ended.{Ended}
use Rattle.script_run.specs.declared.ended.Ended.TheVariants.{Done, SinkFault, NoMemory}
use Rattle.mount_tool.specs.Runs.{IsWritten}
use Rattle.mount_tool.specs.Steps as steps
use Rattle.mount_tool.specs.Steps.{BlocksEnding, BlocksEnd, BlocksEnded, SharedEnding, SharedEnd, SharedBlocksEnded}
use Rattle.script_run.specs.Lines.{cached}
use Rattle.shared_run.specs.Blocks.{several}
use Rattle.shared_run.specs.Runs.{IsSharedRun, Outsides, outsides}
use Rattle.mount_tool.specs.Makes.{MakeEnding, made_line, without_frames, without_room, searched, searched_by_several, SearchesEnd, MakeEnds, IsMakeRun, IsMade}

-- ---- the archive

part_of_made : (alone : Bool) (rest : List ℕ) → is_manifest_name (if alone then codes "__made" else codes "__made" ++ rest) ≡ false
part_of_made true rest = refl
part_of_made false rest = refl

one_behind : (size : ℕ) (text told : List ℕ) (parts : List ℕ)
    → length (filter is_manifest (map (part_blob (made_file size) text) parts ++ (codes "mount-made", told) ∷ [])) ≡ 1
one_behind size text told [] = refl
one_behind size text told (k ∷ ks) =
    let rest : Listing = filter is_manifest (map (part_blob (made_file size) text) ks ++ (codes "mount-made", told) ∷ []) in
    ap (λ b. length (if b then part_blob (made_file size) text k ∷ rest else rest)) (part_of_made (parts_of (made_file size) == 1) (codes ".part" ++ decimal k))
    ∙ one_behind size text told ks

-- of all blobs one is a manifest
pub few_manifests : (seed docs terms : ℕ) (blobs : Listing) → IsMadeArchive seed docs terms blobs → length (manifests blobs) ≤ 65536
few_manifests seed docs terms blobs is =
    let made = is.made in
    let one : length (manifests blobs) ≡ 1 = ap (λ b. length (manifests b)) made.parts ∙ one_behind (length is.text) is.text made.told _ in
    omega (arith, one)

-- ---- the limits

at_least_one : (n : ℕ) → nat_lt 0 n ≡ true → 1 ≤ n
at_least_one n h = grind (arith, nat_tests)

pub run_limits : (m : MakeSettings) → can_be_made m ≡ true → in_limits m.run ≡ true
run_limits m is = (and_parts _ _ (and_parts _ _ (and_parts _ _ is).0).0).0

pub made_limits : (m : MakeSettings) → can_be_made m ≡ true → AreLimits m.docs m.terms
made_limits m is =
    let first = and_parts _ _ is in
    let second = and_parts _ _ first.0 in
    let third = and_parts _ _ second.0 in
    let docs = and_parts _ _ third.1 in
    let terms = and_parts _ _ second.1 in
    record {
      some_docs = at_least_one m.docs docs.0;
      few_docs = leb-true m.docs 100000 docs.1;
      some_terms = at_least_one m.terms terms.0;
      few_terms = leb-true m.terms 100000 terms.1;
      pairs = leb-true (m.docs * m.terms) 4000000 first.1;
    }

-- ---- copies

-- the first items and the next one
pub take_next : {X : Type 0} (xs : List X) (i : ℕ) (x : X) → slice_get xs i ≡ Some x → take (i + 1) xs ≡ take i xs ++ x ∷ []
take_next [] i x h = absurd (cc)
take_next (y ∷ ys) zero x h = let e : y ≡ x = cc in ap (λ z. z ∷ []) e
take_next (y ∷ ys) (suc i) x h = let e : suc i + 1 ≡ suc (i + 1) = omega arith in ap (λ n. take n (y ∷ ys)) e ∙ ap (λ l. y ∷ l) (take_next ys i x h)

-- ---- the script

-- the blocks that are read from the made script's text are those that are made
pub same_blocks : (t text : List ℕ) (blocks wanted : List (List Line)) → t ≡ text → script t ≡ Ok blocks → script text ≡ Ok wanted → blocks ≡ wanted
same_blocks t text blocks wanted same read made = cc

-- ---- endings

-- a sink that never fails, and tells nothing
abbrev pub quiet : SinkView
quiet = record { faults = 0; written = None }

never_rose : Rose 0 0 → ⊥
never_rose h = omega (arith, h)

cut_by : (m : MakeSettings) (before now : MakerView) (k : SinkView) (c d : ClockView) (a b : SourceView) (blocks : List (List Line)) (status : ℕ)
    → blocks ≡ made_script m.seed m.docs m.terms → 1 < status → m.run.workers ≤ 1
    → (ending : BlocksEnding) → BlocksEnd false [] m.run blocks before now (outside a quiet c) (outside b quiet d) ending status
    → IsMakeRun m before.faults now.faults k k c d status
cut_by m before now k c d a b blocks status is above one steps.without_frames h =
    record { ending = without_frames; ends = (h.0, h.1, refl, ap (λ (o : Outside). o.clock) h.2) }
cut_by m before now k c d a b blocks status is above one steps.without_room h =
    record { ending = without_room; ends = (h.0, refl, ap (λ (o : Outside). o.clock) h.1) }
cut_by m before now k c d a b blocks status is above one (steps.over told core (Done true)) h = let e = h.0 in absurd (omega (arith, e, above))
cut_by m before now k c d a b blocks status is above one (steps.over told core (Done false)) h = let e = h.0 in absurd (omega (arith, e, above))
cut_by m before now k c d a b blocks status is above one (steps.over told core SinkFault) h = absurd (never_rose h.2.ends.1)
cut_by m before now k c d a b blocks status is above one (steps.over told core NoMemory) h = record {
  ending = searched (outside a quiet c) (outside b quiet d) core NoMemory 0 0;
  ends = (subst (λ s. IsRun (cached false [] (config_of m.run)) (alone false [] m.run.regions) s (outside a quiet c) (outside b quiet d) core NoMemory) is h.2, refl, refl, (h.0, refl), one);
}

-- the run was cut short, and nothing was written
pub cut_short : (m : MakeSettings) (before now : MakerView) (k : SinkView) (c d : ClockView) (a b : SourceView) (blocks : List (List Line)) (status : ℕ)
    → blocks ≡ made_script m.seed m.docs m.terms → 1 < status → m.run.workers ≤ 1
    → BlocksEnded false [] m.run blocks before now (outside a quiet c) (outside b quiet d) status
    → IsMakeRun m before.faults now.faults k k c d status
cut_short m before now k c d a b blocks status is above one h = cut_by m before now k c d a b blocks status is above one h.ending h.ends

done_by : (m : MakeSettings) (before now : MakerView) (k l : SinkView) (c d : ClockView) (a b : SourceView) (blocks : List (List Line)) (status total sum last : ℕ)
    → blocks ≡ made_script m.seed m.docs m.terms → status ≤ 1 → m.run.workers ≤ 1 → IsWritten k l (made_line m total sum) 0 last
    → (ending : BlocksEnding) → BlocksEnd false [] m.run blocks before now (outside a quiet c) (outside b quiet d) ending status
    → IsMakeRun m before.faults now.faults k l c d last
done_by m before now k l c d a b blocks status total sum last is small one written steps.without_frames h = let e = h.0 in absurd (omega (arith, e, small))
done_by m before now k l c d a b blocks status total sum last is small one written steps.without_room h = let e = h.0 in absurd (omega (arith, e, small))
done_by m before now k l c d a b blocks status total sum last is small one written (steps.over told core SinkFault) h = absurd (never_rose h.2.ends.1)
done_by m before now k l c d a b blocks status total sum last is small one written (steps.over told core NoMemory) h = let e = h.0 in absurd (omega (arith, e, small))
done_by m before now k l c d a b blocks status total sum last is small one written (steps.over told core (Done marked)) h = record {
  ending = searched (outside a quiet c) (outside b quiet d) core (Done marked) total sum;
  ends = (subst (λ s. IsRun (cached false [] (config_of m.run)) (alone false [] m.run.regions) s (outside a quiet c) (outside b quiet d) core (Done marked)) is h.2, refl, refl, written, one);
}

-- the run came to its end, and the line was written or a front of it
pub came_to_its_end : (m : MakeSettings) (before now : MakerView) (k l : SinkView) (c d : ClockView) (a b : SourceView) (blocks : List (List Line)) (status total sum last : ℕ)
    → blocks ≡ made_script m.seed m.docs m.terms → status ≤ 1 → m.run.workers ≤ 1 → IsWritten k l (made_line m total sum) 0 last
    → BlocksEnded false [] m.run blocks before now (outside a quiet c) (outside b quiet d) status
    → IsMakeRun m before.faults now.faults k l c d last
came_to_its_end m before now k l c d a b blocks status total sum last is small one written h = done_by m before now k l c d a b blocks status total sum last is small one written h.ending h.ends

-- ---- endings with several workers

several_cut_by : (m : MakeSettings) (before now : MakerView) (k : SinkView) (c d : ClockView) (olds news : List SourceView) (blocks : List (List Line)) (status : ℕ)
    → blocks ≡ made_script m.seed m.docs m.terms → 1 < status → 1 < m.run.workers
    → (ending : SharedEnding) → SharedEnd false [] m.run blocks before now (outsides olds quiet c) (outsides news quiet d) ending status
    → IsMakeRun m before.faults now.faults k k c d status
several_cut_by m before now k c d olds news blocks status is above some steps.unframed h =
    record { ending = without_frames; ends = (h.0, h.1, refl, ap (λ (o : Outsides). o.clock) h.2) }
several_cut_by m before now k c d olds news blocks status is above some steps.roomless h =
    record { ending = without_room; ends = (h.0, refl, ap (λ (o : Outsides). o.clock) h.1) }
several_cut_by m before now k c d olds news blocks status is above some (steps.through told first last (Done true)) h = let e = h.0 in absurd (omega (arith, e, above))
several_cut_by m before now k c d olds news blocks status is above some (steps.through told first last (Done false)) h = let e = h.0 in absurd (omega (arith, e, above))
several_cut_by m before now k c d olds news blocks status is above some (steps.through told first last SinkFault) h = absurd (never_rose h.2.ends.1)
several_cut_by m before now k c d olds news blocks status is above some (steps.through told first last NoMemory) h = record {
  ending = searched_by_several (outsides olds quiet c) (outsides news quiet d) first last NoMemory 0 0;
  ends = (subst (λ s. IsSharedRun (cached false [] (config_of m.run)) (several false [] m.run.workers m.run.regions) s (outsides olds quiet c) (outsides news quiet d) first last NoMemory) is h.2, refl, refl, (h.0, refl), some);
}

-- the run by several workers was cut short, and nothing was written
pub several_cut_short : (m : MakeSettings) (before now : MakerView) (k : SinkView) (c d : ClockView) (olds news : List SourceView) (blocks : List (List Line)) (status : ℕ)
    → blocks ≡ made_script m.seed m.docs m.terms → 1 < status → 1 < m.run.workers
    → SharedBlocksEnded false [] m.run blocks before now (outsides olds quiet c) (outsides news quiet d) status
    → IsMakeRun m before.faults now.faults k k c d status
several_cut_short m before now k c d olds news blocks status is above some h = several_cut_by m before now k c d olds news blocks status is above some h.ending h.ends

several_done_by : (m : MakeSettings) (before now : MakerView) (k l : SinkView) (c d : ClockView) (olds news : List SourceView) (blocks : List (List Line)) (status total sum last_status : ℕ)
    → blocks ≡ made_script m.seed m.docs m.terms → status ≤ 1 → 1 < m.run.workers → IsWritten k l (made_line m total sum) 0 last_status
    → (ending : SharedEnding) → SharedEnd false [] m.run blocks before now (outsides olds quiet c) (outsides news quiet d) ending status
    → IsMakeRun m before.faults now.faults k l c d last_status
several_done_by m before now k l c d olds news blocks status total sum last_status is small some written steps.unframed h = let e = h.0 in absurd (omega (arith, e, small))
several_done_by m before now k l c d olds news blocks status total sum last_status is small some written steps.roomless h = let e = h.0 in absurd (omega (arith, e, small))
several_done_by m before now k l c d olds news blocks status total sum last_status is small some written (steps.through told first last SinkFault) h = absurd (never_rose h.2.ends.1)
several_done_by m before now k l c d olds news blocks status total sum last_status is small some written (steps.through told first last NoMemory) h = let e = h.0 in absurd (omega (arith, e, small))
several_done_by m before now k l c d olds news blocks status total sum last_status is small some written (steps.through told first last (Done marked)) h = record {
  ending = searched_by_several (outsides olds quiet c) (outsides news quiet d) first last (Done marked) total sum;
  ends = (subst (λ s. IsSharedRun (cached false [] (config_of m.run)) (several false [] m.run.workers m.run.regions) s (outsides olds quiet c) (outsides news quiet d) first last (Done marked)) is h.2, refl, refl, written, some);
}

-- the run by several workers came to its end, and the line was written or a front of it
pub several_came_to_their_end : (m : MakeSettings) (before now : MakerView) (k l : SinkView) (c d : ClockView) (olds news : List SourceView) (blocks : List (List Line)) (status total sum last_status : ℕ)
    → blocks ≡ made_script m.seed m.docs m.terms → status ≤ 1 → 1 < m.run.workers → IsWritten k l (made_line m total sum) 0 last_status
    → SharedBlocksEnded false [] m.run blocks before now (outsides olds quiet c) (outsides news quiet d) status
    → IsMakeRun m before.faults now.faults k l c d last_status
several_came_to_their_end m before now k l c d olds news blocks status total sum last_status is small some written h =
    several_done_by m before now k l c d olds news blocks status total sum last_status is small some written h.ending h.ends

-- ---- completeness

written_whole : (m : MakeSettings) (k l : SinkView) (total sum status : ℕ) → IsWritten k l (made_line m total sum) 0 status → (Rose k.faults l.faults → ⊥) → IsMade m k l status
written_whole m k l total sum status (inl h) well = inl (h.1, (total, sum, h.0))
written_whole m k l total sum status (inr (front, inl five)) well = absurd (well five.1)
written_whole m k l total sum status (inr (front, inr six)) well = inr six

searches_whole : (m : MakeSettings) (k l : SinkView) (total sum : ℕ) (ended : Ended) (status : ℕ) → SearchesEnd m k l total sum ended status → (Rose k.faults l.faults → ⊥) → IsMade m k l status
searches_whole m k l total sum (Done marked) status h well = written_whole m k l total sum status h well
searches_whole m k l total sum SinkFault status h well = absurd h
searches_whole m k l total sum NoMemory status h well = inr h.0

ending_whole : (m : MakeSettings) (faults now : ℕ) (k l : SinkView) (c d : ClockView) (ending : MakeEnding) (status : ℕ) → MakeEnds m faults now k l c d ending status
    → (Rose faults now → ⊥) → (Rose k.faults l.faults → ⊥) → IsMade m k l status
ending_whole m faults now k l c d without_frames status h frames well = absurd (frames h.1)
ending_whole m faults now k l c d without_room status h frames well = inr h.0
ending_whole m faults now k l c d (searched a b core ended total sum) status h frames well = searches_whole m k l total sum ended status h.3 well
ending_whole m faults now k l c d (searched_by_several a b first last ended total sum) status h frames well = searches_whole m k l total sum ended status h.3 well

-- a run of `make` in which nothing failed
pub run_whole : (m : MakeSettings) (faults now : ℕ) (k l : SinkView) (c d : ClockView) (status : ℕ) → IsMakeRun m faults now k l c d status
    → (Rose faults now → ⊥) → (Rose k.faults l.faults → ⊥) → IsMade m k l status
run_whole m faults now k l c d status h frames well = ending_whole m faults now k l c d h.ending status h.ends frames well
