-- What lines do that one worker runs one after another, through one door and on one source.
use Rattle.std.specs.Prelude.{ℕ, ◌≡◌, ◌≤◌, ◌==◌, ◌||◌, ◌&&◌, List, [], ◌∷◌, length, count_by, codes, Bool, true, false, IsTrue, Option, Some, None, if◌then◌else◌}
use Rattle.std.specs.List.{list_any}
use Rattle.byte_text.specs.Counts.{Rose}
use Rattle.blob_parts.specs.Takes.{Took}
use Rattle.cache_outside.specs.Listing.{Listing}
use Rattle.cache_outside.specs.Sources.{SourceView}
use Rattle.cache_door.specs.Doors.{Grown, hold_view, nothing}
use Rattle.cache_reader.specs.Bounds.{Bounded}
use Rattle.cache_reader.specs.Going.{Moment, moment}
use Rattle.cache_reader.specs.Reports.{Grew}
use Rattle.cache_table.specs.Views.{CacheView, PassView, IsOf}
use Rattle.cache_table.specs.Doors.{view_at}
use Rattle.index_mounts.specs.Rosters.{MountView, RosterView, mounted}
use Rattle.mount_script.specs.declared.command.Command.{Command}
use Rattle.mount_script.specs.declared.command.Command.TheVariants.{Stats}
use Rattle.mount_script.specs.declared.command.Line.{Line}
use Rattle.mount_script.specs.declared.reply.Reply.{Reply}
use Rattle.mount_script.specs.declared.reply.Reply.TheVariants as reply
use Rattle.shard_replies.specs.ExpectedReplies.{expected_reply, used_name, refused}
use Rattle.script_run.specs.Mounting.{mounts_of}
use Rattle.script_run.specs.Allowed.{reads_files, is_fault, is_memory, Bears}
use Rattle.script_run.specs.Lines.{Cached, IsAnswer, IsOrNoMemory, HasKind}

-- ---- replies

-- what is known of a reply whatever the archive tells; several workers refuse a `stats` line
abbrev pub ReplyKind : Command → Option MountView → Reply → Type 0
ReplyKind Stats m given = IsOrNoMemory (refused (codes "refused stats")) given
ReplyKind c m given = HasKind c m given

-- the mount is there, and was seen gone
pub record SeenGone (m : Option MountView) (seen : ℕ → Bool) : Type 0 where
  pub mount : MountView
  pub is : m ≡ Some mount
  pub gone : seen mount.mount ≡ true

-- `fault` and `gone` come only on lines that read files, and `gone` only where the line's mount was seen gone
abbrev pub MarkSeen : Command → Option MountView → (ℕ → Bool) → Reply → Type 0
MarkSeen c m seen reply.Fault = IsTrue (reads_files c)
MarkSeen c m seen reply.Gone = IsTrue (reads_files c) × SeenGone m seen
MarkSeen c m seen _ = Unit {0}

-- A reply to a line: the one that whole files give, where that is told, or a mark; and it is of its command's kind.
pub record LineAnswered (tells : Bool) (blobs : Listing) (r : RosterView) (seen : ℕ → Bool) (c : Command) (given : Reply) : Type 0 where
  pub told : IsAnswer tells (expected_reply blobs (mounts_of r) c) given
  pub mark : MarkSeen c (mounted (used_name c) r) seen given
  pub kind : ReplyKind c (mounted (used_name c) r) given

-- a reply to each line
abbrev pub AllAnswered : Bool → Listing → RosterView → (ℕ → Bool) → List Line → List Reply → Type 0
AllAnswered tells blobs r seen [] [] = Unit {0}
AllAnswered tells blobs r seen (l ∷ ls) (x ∷ xs) = LineAnswered tells blobs r seen l.command x × AllAnswered tells blobs r seen ls xs
AllAnswered tells blobs r seen _ _ = ⊥

abbrev pub is_decayed : Reply → Bool
is_decayed reply.Decayed = true
is_decayed _ = false

abbrev pub is_cleared : Reply → Bool
is_cleared reply.Cleared = true
is_cleared _ = false

-- ---- mounts

abbrev pub has_number : ℕ → Option MountView → Bool
has_number n None = false
has_number n (Some m) = n == m.mount

-- the line was answered `unmounted`, and n is its mount
abbrev pub unmounts : RosterView → Command → Reply → ℕ → Bool
unmounts r c reply.Unmounted n = has_number n (mounted (used_name c) r)
unmounts r c given n = false

-- n is the mount of a line that was answered `unmounted`
abbrev pub unmounted_by : RosterView → List Line → List Reply → ℕ → Bool
unmounted_by r (l ∷ ls) (x ∷ xs) n = unmounts r l.command x n || unmounted_by r ls xs n
unmounted_by r ls xs n = false

-- ---- work

-- The places of the bytes that were taken from a source. Where its count of failures did not rise and no line wanted memory, they are as many as
-- the counts of the door's work say.
pub record LinesTook (range : ℕ) (lacks : Bool) (x y : Moment) : Type 0 where
  pub places : List (ℕ × ℕ)
  pub took : Took x.source.reads y.source.reads places
  pub bound : lacks ≡ false → (Rose x.source.faults y.source.faults → ⊥) → Bounded range x.door.work y.door.work (length places)

-- What one line with this reply makes of a source and a door.
pub record LineWorks (range : ℕ) (tells : Bool) (r : RosterView) (c : Command) (given : Reply) (x y : Moment) : Type 0 where
  pub decays : Grew x.door.work.decays y.door.work.decays (if is_decayed given then 1 else 0)
  pub clears : Grew x.door.work.clears y.door.work.clears (if is_cleared given then 1 else 0)
  pub stored : x.door.work.stored ≤ y.door.work.stored
  pub turned : x.door.work.turned_away ≤ y.door.work.turned_away
  pub unmounted : (n : ℕ) → y.door.unmounted n ≡ (unmounts r c given n || x.door.unmounted n)
  pub took : IsTrue tells → LinesTook range (is_memory given) x y

-- What lines with these replies make of a source and a door.
pub record LinesDid (e : Cached) (r : RosterView) (lines : List Line) (replies : List Reply) (x y : Moment) : Type 0 where
  pub answered : AllAnswered (e.tells && x.door.frames_tell) e.blobs r y.door.seen_gone lines replies
  pub bears : Bears (count_by is_fault replies) x.source.faults y.source.faults
  pub faults : x.source.faults ≤ y.source.faults
  pub identity : y.source.identity ≡ x.source.identity
  pub seen : Grown x.door.seen_gone y.door.seen_gone
  pub unmounted : (n : ℕ) → y.door.unmounted n ≡ (unmounted_by r lines replies n || x.door.unmounted n)
  pub decays : Grew x.door.work.decays y.door.work.decays (count_by is_decayed replies)
  pub clears : Grew x.door.work.clears y.door.work.clears (count_by is_cleared replies)
  pub stored : x.door.work.stored ≤ y.door.work.stored
  pub turned : x.door.work.turned_away ≤ y.door.work.turned_away
  pub took : IsTrue e.tells → LinesTook e.config.range (list_any is_memory replies) x y

-- ---- a worker's job

-- a pass of this cache that holds nothing
pub record IsIdle (c : CacheView) (p : PassView) : Type 0 where
  pub of : IsOf c p
  pub free : hold_view p.view.hold ≡ nothing

-- there is such a pass
abbrev pub IsReady : CacheView → Option PassView → Type 0
IsReady c None = ⊥
IsReady c (Some p) = IsIdle c p

-- what lines with these replies make of a source and a pass
pub record PassRan (e : Cached) (c : CacheView) (r : RosterView) (lines : List Line) (replies : List Reply) (a b : SourceView) (p q : PassView) : Type 0 where
  pub did : LinesDid e r lines replies (moment a (view_at c.about p)) (moment b (view_at c.about q))
  pub shares : q.view.shares ≡ p.view.shares

abbrev pub JobRan : Cached → CacheView → RosterView → List Line → List Reply → SourceView → SourceView → Option PassView → Option PassView → Type 0
JobRan e c r lines replies a b (Some p) (Some q) = PassRan e c r lines replies a b p q
JobRan e c r lines replies a b p q = ⊥
