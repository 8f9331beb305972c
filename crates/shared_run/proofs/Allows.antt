-- The answers of several workers are allowed replies, where each `gone` has its `unmount` line in the block.
use Rattle.std.proofs.Common.{◌≡◌, ◌≢◌, ◌∙◌, ◌++◌, ℕ, Bool, true, false, List, [], ◌∷◌, sym, ap, refl, inl, inr}
use Rattle.std.specs.Prelude.{◌==◌, ◌||◌, IsTrue, Option, Some, None, codes}
use Rattle.std.specs.Str.{bytes_eq}
use Rattle.std.proofs.lemmas.Bool.Decides.{Decides-eqb}
use Rattle.std.proofs.lemmas.Slice.Eq.{bytes_eq-Decides}
use Rattle.std.proofs.Math.Bool.{or-true}
use Rattle.cache_outside.specs.Listing.{Listing}
use Rattle.index_mounts.specs.Rosters.{MountView, RosterView, IsRoster, mounted}
use Rattle.mount_script.specs.declared.command.Command.{Command}
use Rattle.mount_script.specs.declared.command.Command.TheVariants.{Mount, Unmount, Clear, Decay, Stats, Search, Fetch, Read}
use Rattle.mount_script.specs.declared.command.Line.{Line}
use Rattle.mount_script.specs.declared.reply.Reply.{Reply}
use Rattle.mount_script.specs.declared.reply.Reply.TheVariants as reply
use Rattle.shard_replies.specs.ExpectedReplies.{Mounts, expected_reply, used_name, refused}
use Rattle.script_run.specs.Mounting.{mounts_of}
use Rattle.script_run.specs.Allowed.{RunSetting, Allowed, AllowedFrom, IsPlain, reads_files, unmounted_in, is_unmount_of, may_be_gone}
use Rattle.script_run.specs.Blocks.{NoMounts}
use Rattle.script_run.specs.Lines.{is_mount, IsOrNoMemory}
use Rattle.script_run.proofs.Blocks.{source_read}
use Rattle.shared_run.specs.Workers.{ReplyKind, SeenGone, LineAnswered, AllAnswered, has_number, unmounts, unmounted_by}

may_go : (near : List Line) (c : Command) → IsTrue (reads_files c) → IsTrue (unmounted_in near (used_name c)) → IsTrue (may_be_gone near c)
may_go near (Mount name manifest) h u = h
may_go near (Unmount name) h u = h
may_go near (Clear name) h u = h
may_go near Decay h u = h
may_go near Stats h u = h
may_go near (Search name size text) h u = u
may_go near (Fetch name segment doc) h u = u
may_go near (Read name file at len) h u = u

is_told : (w x : Reply) → x ≢ reply.NoMemory → IsOrNoMemory w x → x ≡ w
is_told w x other (inl e) = e
is_told w x other (inr e) = absurd (other e)

module _ (s : RunSetting) (m : Mounts) (o : Option MountView) (several : (s.workers == 1) ≡ false) where
  plain_told : (c : Command) (x : Reply) → is_mount c ≡ false → x ≢ reply.NoMemory → ReplyKind c o x → (IsTrue s.tells → x ≡ expected_reply s.blobs m c) → IsPlain s m c x
  plain_told (Mount name manifest) x h other kind k = absurd (cc)
  plain_told (Unmount name) x h other kind k = k
  plain_told (Clear name) x h other kind k = k
  plain_told Decay x h other kind k = k
  plain_told Stats x h other kind k = rw several (is_told (refused (codes "refused stats")) x other kind)
  plain_told (Search name size text) x h other kind k = k
  plain_told (Fetch name segment doc) x h other kind k = k
  plain_told (Read name file at len) x h other kind k = k

module _ (s : RunSetting) (r : RosterView) (seen : ℕ → Bool) (block : List Line) (several : (s.workers == 1) ≡ false)
    (cause : (c : Command) → IsTrue (reads_files c) → SeenGone (mounted (used_name c) r) seen → IsTrue (unmounted_in block (used_name c))) where
  line_allowed : (c : Command) (x : Reply) → is_mount c ≡ false → LineAnswered s.tells s.blobs r seen c x → Allowed s (mounts_of r) block c x
  line_allowed c reply.Fault shared h = source_read c h.mark
  line_allowed c reply.Gone shared h = may_go block c h.mark.0 (cause c h.mark.0 h.mark.1)
  line_allowed c reply.NoMemory shared h = tt {0}
  line_allowed c x shared h = plain_told s (mounts_of r) (mounted (used_name c) r) several c x shared (λ e. absurd (cc)) h.kind h.told

  -- all lines of a block
  pub all_allowed : (before ls : List Line) (xs : List Reply) → NoMounts ls → AllAnswered s.tells s.blobs r seen ls xs → AllowedFrom s (mounts_of r) block before ls xs
  all_allowed before [] [] shared h = tt {0}
  all_allowed before [] (x ∷ xs) shared h = absurd h
  all_allowed before (l ∷ ls) [] shared h = absurd h
  all_allowed before (l ∷ ls) (x ∷ xs) shared h =
      (rw several (line_allowed l.command x shared.0 h.0), all_allowed (before ++ l ∷ []) ls xs shared.1 h.1)

module _ (tells : Bool) (blobs : Listing) (r : RosterView) (kept : IsRoster tells blobs r) (name : List ℕ) (m : MountView) (is : mounted name r ≡ Some m) where
  by_mount : (c : Command) (o : Option MountView) → mounted (used_name c) r ≡ o → is_mount c ≡ false → ReplyKind c o reply.Unmounted → has_number m.mount o ≡ true → is_unmount_of name c ≡ true
  by_mount c None e shared kind u = absurd (cc)
  by_mount (Unmount other) (Some t) e shared kind u =
      let same : other ≡ name = kept.once other name t m e is (sym ((Decides-eqb m.mount t.mount).0 u)) in
      ap (λ (n : List ℕ). bytes_eq n name) same ∙ (bytes_eq-Decides name name).1 refl
  by_mount (Mount other manifest) (Some t) e shared kind u = absurd (cc)
  by_mount Stats (Some t) e shared (inl k) u = absurd (cc)
  by_mount Stats (Some t) e shared (inr k) u = absurd (cc)
  by_mount (Clear other) (Some t) e shared kind u = absurd (cc)
  by_mount Decay (Some t) e shared kind u = absurd (cc)
  by_mount (Search other size text) (Some t) e shared kind u = absurd kind
  by_mount (Fetch other segment doc) (Some t) e shared kind u = absurd kind
  by_mount (Read other file at len) (Some t) e shared kind u = absurd kind

  pub line_names : (c : Command) (x : Reply) → is_mount c ≡ false → ReplyKind c (mounted (used_name c) r) x → unmounts r c x m.mount ≡ true → is_unmount_of name c ≡ true
  line_names c reply.Unmounted shared kind u = by_mount c (mounted (used_name c) r) refl shared kind u
  line_names c x shared kind u = absurd (cc)

  -- a mount that lines unmounted has an `unmount` line of its name among them
  pub lines_name : (told : Bool) (seen : ℕ → Bool) (ls : List Line) (xs : List Reply) → NoMounts ls → AllAnswered told blobs r seen ls xs → unmounted_by r ls xs m.mount ≡ true → unmounted_in ls name ≡ true
  lines_name told seen [] xs shared h u = absurd (cc)
  lines_name told seen (l ∷ ls) [] shared h u = absurd (cc)
  lines_name told seen (l ∷ ls) (x ∷ xs) shared h u = by_line (unmounts r l.command x m.mount) refl (lines_name told seen ls xs shared.1 h.1)
    where
      by_line : (b : Bool) → unmounts r l.command x m.mount ≡ b → (unmounted_by r ls xs m.mount ≡ true → unmounted_in ls name ≡ true) → unmounted_in (l ∷ ls) name ≡ true
      by_line true e f = ap (λ (b : Bool). b || unmounted_in ls name) (line_names l.command x shared.0 h.0.kind e)
      by_line false e f = ap (λ (b : Bool). is_unmount_of name l.command || b) (f (rw e at u)) ∙ or-true (is_unmount_of name l.command)

-- Where the mounts of the roster that were seen gone are those that the block's lines unmounted, its replies are allowed ones.
pub block_allowed : (s : RunSetting) (tells : Bool) (r : RosterView) (seen : ℕ → Bool) (block : List Line) (xs : List Reply) → (s.workers == 1) ≡ false → IsRoster tells s.blobs r → NoMounts block
    → AllAnswered s.tells s.blobs r seen block xs → ((name : List ℕ) (m : MountView) → mounted name r ≡ Some m → seen m.mount ≡ true → unmounted_by r block xs m.mount ≡ true)
    → AllowedFrom s (mounts_of r) block [] block xs
block_allowed s tells r seen block xs several kept shared h gone =
    all_allowed s r seen block several (λ c reads g. lines_name tells s.blobs r kept (used_name c) g.mount g.is s.tells seen block xs shared h (gone (used_name c) g.mount g.is g.gone)) [] block xs shared h
