-- What a block of lines by several workers makes of the sources and of the pass.
use Rattle.std.specs.Prelude.{ℕ, ◌≡◌, ◌≤◌, ◌+◌, ◌||◌, ◌&&◌, List, [], ◌∷◌, length, map, count_by, sum_by, slice_index_or, Bool, false, IsTrue, Option, Some, None}
use Rattle.std.specs.List.{list_any}
use Rattle.byte_text.specs.Counts.{Rose}
use Rattle.blob_parts.specs.Takes.{Took}
use Rattle.cache_outside.specs.Listing.{Listing}
use Rattle.cache_outside.specs.Sources.{SourceView}
use Rattle.cache_reader.specs.Bounds.{Bounded}
use Rattle.cache_reader.specs.Reports.{Grew}
use Rattle.cache_table.specs.Calls.{marks}
use Rattle.cache_table.specs.Views.{CacheView, PassView}
use Rattle.index_mounts.specs.Rosters.{MountView, RosterView, mounted}
use Rattle.mount_script.specs.declared.command.Line.{Line}
use Rattle.mount_script.specs.declared.reply.Reply.{Reply}
use Rattle.script_run.specs.Allowed.{RunSetting, faults_of, is_memory, Bears}
use Rattle.script_run.specs.Lines.{Cached}
use Rattle.shared_run.specs.Dealt.{AllDealt, without_shares}
use Rattle.shared_run.specs.Gathered.{JoinedAll}
use Rattle.shared_run.specs.Shares.{share}
use Rattle.shared_run.specs.Workers.{JobRan, AllAnswered, unmounted_by, is_decayed, is_cleared}

-- a run with several workers
abbrev pub several : Bool → Listing → ℕ → ℕ → RunSetting
several tells blobs workers regions = record { tells = tells; blobs = blobs; workers = workers; regions = regions }

-- the pass has unmounted no mount of the roster
abbrev pub NoneUnmounted : RosterView → PassView → Type 0
NoneUnmounted r p = (name : List ℕ) (m : MountView) → mounted name r ≡ Some m → marks p.view.unmounted m.mount ≡ false

-- ---- sources

abbrev pub source_at : List SourceView → ℕ → SourceView
source_at sources i = slice_index_or sources i (record { identity = 0; faults = 0; reads = None })

-- each source took bytes of these places
abbrev pub AllTook : List SourceView → List SourceView → List (List (ℕ × ℕ)) → Type 0
AllTook [] [] [] = Unit {0}
AllTook (a ∷ olds) (b ∷ news) (ps ∷ pss) = Took a.reads b.reads ps × AllTook olds news pss
AllTook _ _ _ = ⊥

-- The places of the bytes that were taken from the sources. Where no source's count of failures rose and no line wanted memory, they are as
-- many as the counts of the pass's work say.
pub record BlockTook (range : ℕ) (lacks : Bool) (olds news : List SourceView) (p q : PassView) : Type 0 where
  pub places : List (List (ℕ × ℕ))
  pub took : AllTook olds news places
  pub bound : lacks ≡ false → ((i : ℕ) → Rose (source_at olds i).faults (source_at news i).faults → ⊥) → Bounded range p.work q.work (sum_by length places)

-- ---- the block

-- What a block with these replies makes of the sources and of a pass. Line k, from 0, ran on source k mod workers.
pub record BlockDid (e : Cached) (c : CacheView) (workers : ℕ) (r : RosterView) (block : List Line) (replies : List Reply) (olds news : List SourceView) (p q : PassView) : Type 0 where
  pub answered : AllAnswered (e.tells && c.about.tells) e.blobs r (marks q.view.gone) block replies
  pub bears : (i : ℕ) → Bears (faults_of workers i 0 replies) (source_at olds i).faults (source_at news i).faults
  pub faults : (i : ℕ) → (source_at olds i).faults ≤ (source_at news i).faults
  pub identities : map (λ s. s.identity) news ≡ map (λ s. s.identity) olds
  pub unmounted : (n : ℕ) → marks q.view.unmounted n ≡ (unmounted_by r block replies n || marks p.view.unmounted n)
  pub decays : Grew p.work.decays q.work.decays (count_by is_decayed replies)
  pub clears : Grew p.work.clears q.work.clears (count_by is_cleared replies)
  pub stored : p.work.stored ≤ q.work.stored
  pub turned : p.work.turned_away ≤ q.work.turned_away
  pub took : IsTrue e.tells → BlockTook e.config.range (list_any is_memory replies) olds news p q

-- ---- its workers

-- the jobs of the workers from number i on: their replies, their sources and their passes before and after
abbrev pub JobsRan : Cached → CacheView → RosterView → ℕ → ℕ → List Line → List (List Reply) → List SourceView → List SourceView → List (Option PassView) → List (Option PassView) → Type 0
JobsRan e c r workers i block [] [] [] [] [] = Unit {0}
JobsRan e c r workers i block (xs ∷ xss) (a ∷ olds) (b ∷ news) (o ∷ os) (q ∷ qs) =
    JobRan e c r (share workers i 0 block) xs a b o q × JobsRan e c r workers (i + 1) block xss olds news os qs
JobsRan e c r workers i block _ _ _ _ _ = ⊥

-- shares of a pass were dealt to all workers, each ran its lines, and the shares came back
pub record WorkersRan (e : Cached) (c : CacheView) (workers : ℕ) (r : RosterView) (block : List Line) (replies : List (List Reply)) (olds news : List SourceView) (p q : PassView) : Type 0 where
  pub dealt : List (Option PassView)
  pub back : List (Option PassView)
  pub many : length replies ≡ workers
  pub shares : AllDealt c p dealt
  pub ran : JobsRan e c r workers 0 block replies olds news dealt back
  pub joined : JoinedAll (without_shares workers p) back q
