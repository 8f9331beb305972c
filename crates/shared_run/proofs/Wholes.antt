-- A whole block, of what its workers did.
use Rattle.std.proofs.Common.{◌≡◌, ◌∙◌, ◌≤◌, ◌<◌, ◌+◌, ℕ, zero, suc, true, List, [], ◌∷◌, length, get_or, sym, ap, refl, arith, add-zero, zero-add}
use Rattle.std.specs.Prelude.{◌&&◌, Option, Some, None}
use Rattle.cache_outside.specs.Sources.{SourceView}
use Rattle.cache_table.specs.Calls.{marks}
use Rattle.cache_table.specs.Views.{CacheView, PassView}
use Rattle.index_mounts.specs.Rosters.{MountView, RosterView, IsRoster, mounted}
use Rattle.mount_script.specs.declared.command.Line.{Line}
use Rattle.mount_script.specs.declared.reply.Reply.{Reply}
use Rattle.script_run.specs.Mounting.{mounts_of}
use Rattle.script_run.specs.Allowed.{AllowedBlock}
use Rattle.script_run.specs.Blocks.{NoMounts}
use Rattle.script_run.specs.Lines.{Cached}
use Rattle.shared_run.specs.Blocks.{several, NoneUnmounted, BlockDid, JobsRan, WorkersRan}
use Rattle.shared_run.specs.Dealt.{AllDealt}
use Rattle.shared_run.specs.Shares.{share}
use Rattle.shared_run.specs.Workers.{unmounted_by}
use Rattle.shared_run.proofs.Allows.{block_allowed}
use Rattle.shared_run.proofs.Runs.{answered_length}
use Rattle.shared_run.proofs.Shares.{other_is, first_holds}

module _ (e : Cached) (c : CacheView) (r : RosterView) (w : ℕ) (block : List Line) (p : PassView) where
  -- each worker has a reply to each of its lines
  fits_length : (i : ℕ) (xss : List (List Reply)) (olds news : List SourceView) (os qs : List (Option PassView)) → AllDealt c p os → JobsRan e c r w i block xss olds news os qs
      → (j : ℕ) → j < length xss → length (get_or xss j []) ≡ length (share w (i + j) 0 block)
  fits_length i [] olds news os qs dealt ran j below = absurd (omega (arith, below))
  fits_length i (xs ∷ xss) (a ∷ olds) (b ∷ news) (Some s ∷ os) (Some t ∷ qs) dealt ran zero below =
      answered_length _ e.blobs r _ (share w i 0 block) xs ran.0.did.answered ∙ ap (λ (m : ℕ). length (share w m 0 block)) (sym (add-zero i))
  fits_length i (xs ∷ xss) (a ∷ olds) (b ∷ news) (Some s ∷ os) (Some t ∷ qs) dealt ran (suc j) below =
      fits_length (i + 1) xss olds news os qs dealt.1 ran.1 j (omega (arith, below)) ∙ ap (λ (m : ℕ). length (share w m 0 block)) (next i j)
    where
      next : (i j : ℕ) → i + 1 + j ≡ i + suc j
      next i j = omega arith
  fits_length i (xs ∷ xss) (a ∷ olds) (b ∷ news) (None ∷ os) qs dealt ran j below = absurd dealt.0
  fits_length i (xs ∷ xss) (a ∷ olds) (b ∷ news) (Some s ∷ os) [] dealt ran j below = absurd ran
  fits_length i (xs ∷ xss) (a ∷ olds) (b ∷ news) (Some s ∷ os) (None ∷ qs) dealt ran j below = absurd ran.0
  fits_length i (xs ∷ xss) olds news os qs dealt ran j below = absurd ran

  some_back : (i : ℕ) (xss : List (List Reply)) (olds news : List SourceView) (os qs : List (Option PassView)) → AllDealt c p os → JobsRan e c r w i block xss olds news os qs → 0 < length xss → 0 < length qs
  some_back i [] olds news os qs dealt ran some = absurd (omega (arith, some))
  some_back i (xs ∷ xss) (a ∷ olds) (b ∷ news) (Some s ∷ os) (q ∷ qs) dealt ran some = omega arith
  some_back i (xs ∷ xss) (a ∷ olds) (b ∷ news) (None ∷ os) qs dealt ran some = absurd dealt.0
  some_back i (xs ∷ xss) (a ∷ olds) (b ∷ news) (Some s ∷ os) [] dealt ran some = absurd ran
  some_back i (xs ∷ xss) olds news os qs dealt ran some = absurd ran

  module _ (q : PassView) (xss : List (List Reply)) (olds news : List SourceView) (ran : WorkersRan e c w r block xss olds news p q) where
    pub queues_fit : (n : ℕ) → n ≡ w → (i : ℕ) → i < n → length (get_or xss i []) ≡ length (share n i 0 block)
    queues_fit n same i below =
        fits_length 0 xss olds news ran.dealt ran.back ran.shares ran.ran i (omega (arith, below, same, ran.many))
        ∙ ap (λ (m : ℕ). length (share w m 0 block)) (zero-add i) ∙ ap (λ (m : ℕ). length (share m i 0 block)) (sym same)

    -- the replies of a pass with all shares
    pub allowed_whole : (replies : List Reply) (before now : List SourceView) (regions : ℕ) → 2 ≤ w → BlockDid e c w r block replies before now p q → IsRoster e.tells e.blobs r → NoMounts block
        → q.view.shares ≡ 64 → NoneUnmounted r p → AllowedBlock (several (e.tells && c.about.tells) e.blobs w regions) (mounts_of r) block replies
    allowed_whole replies before now regions two did kept plain whole none =
        block_allowed (several (e.tells && c.about.tells) e.blobs w regions) e.tells r (marks q.view.gone) block replies (other_is w 1 (λ e. absurd (omega (arith, two, e)))) kept plain did.answered by_line
      where
        by_line : (name : List ℕ) (m : MountView) → mounted name r ≡ Some m → marks q.view.gone m.mount ≡ true → unmounted_by r block replies m.mount ≡ true
        by_line name m is seen =
            let some = some_back 0 xss olds news ran.dealt ran.back ran.shares ran.ran (omega (arith, two, ran.many)) in
            let own = ran.joined.whole some whole m.mount seen in
            first_holds (unmounted_by r block replies m.mount) (marks p.view.unmounted m.mount) (none name m is) (sym (did.unmounted m.mount) ∙ own)
