-- The blocks of a script that was read.
use Rattle.std.proofs.Common.{◌≡◌, ℕ, Bool, true, false, List, [], ◌∷◌, ◌++◌, subst, refl, inl, inr, zero, suc}
use Rattle.std.specs.Prelude.{Some, Result, Ok, Err, slice_get, if◌then◌else◌}
use Rattle.mount_script.specs.Blocks.{Entry, divider, one, stands_alone, put_block, blocks}
use Rattle.mount_script.specs.Scripts.{blocks_of, entries, lines_of, is_too_long}
use Rattle.mount_script.specs.declared.command.Command.{Command}
use Rattle.mount_script.specs.declared.command.Command.TheVariants.{Mount, Unmount, Clear, Decay, Stats, Search, Fetch, Read}
use Rattle.mount_script.specs.declared.command.Line.{Line}
use Rattle.mount_script.specs.declared.error.ScriptError.{ScriptError}
use Rattle.mount_script.specs.declared.error.ScriptError.TheVariants.{TooLong}
use Rattle.script_run.specs.Lines.{is_shared}
use Rattle.script_run.specs.Blocks.{AllShared, IsBlock, WasRead}

not_shared : (c : Command) → stands_alone c ≡ true → is_shared c ≡ false
not_shared (Mount name manifest) h = refl
not_shared Stats h = refl
not_shared (Unmount name) h = absurd (cc)
not_shared (Clear name) h = absurd (cc)
not_shared Decay h = absurd (cc)
not_shared (Search name size text) h = absurd (cc)
not_shared (Fetch name segment doc) h = absurd (cc)
not_shared (Read name file at len) h = absurd (cc)

shared : (c : Command) → stands_alone c ≡ false → is_shared c ≡ true
shared (Mount name manifest) h = absurd (cc)
shared Stats h = absurd (cc)
shared (Unmount name) h = refl
shared (Clear name) h = refl
shared Decay h = refl
shared (Search name size text) h = refl
shared (Fetch name segment doc) h = refl
shared (Read name file at len) h = refl

all_more : (ls : List Line) (l : Line) → AllShared ls → is_shared l.command ≡ true → AllShared (ls ++ l ∷ [])
all_more [] l h k = (k, tt {0})
all_more (m ∷ ls) l h k = (h.0, all_more ls l h.1 k)

-- each block of a list
AreBlocks : List (List Line) → Type 0
AreBlocks [] = Unit {0}
AreBlocks (b ∷ bs) = IsBlock b × AreBlocks bs

no_blocks : AreBlocks []
unfolding AreBlocks
no_blocks = tt {0}

more_blocks : (b : List Line) (bs : List (List Line)) → IsBlock b → AreBlocks bs → AreBlocks (b ∷ bs)
unfolding AreBlocks
more_blocks b bs h k = (h, k)

put : (begun : List Line) (bs : List (List Line)) → AllShared begun → AreBlocks bs → AreBlocks (put_block begun bs)
put [] bs h k = k
put (l ∷ ls) bs h k = more_blocks (l ∷ ls) bs (inl h) k

are_blocks : (begun : List Line) (es : List Entry) → AllShared begun → AreBlocks (blocks begun es)
are_blocks begun [] h = put begun [] h no_blocks
are_blocks begun (divider ∷ es) h = put begun (blocks [] es) h (are_blocks [] es (tt {0}))
are_blocks begun (one l ∷ es) h = by_line (stands_alone l.command) refl (are_blocks [] es (tt {0})) (λ k. are_blocks (begun ++ l ∷ []) es (all_more begun l h k))
  where
    by_line : (b : Bool) → stands_alone l.command ≡ b → AreBlocks (blocks [] es) → (is_shared l.command ≡ true → AreBlocks (blocks (begun ++ l ∷ []) es))
        → AreBlocks (if stands_alone l.command then put_block begun ((l ∷ []) ∷ blocks [] es) else blocks (begun ++ l ∷ []) es)
    by_line true e rest more = rw e (put begun ((l ∷ []) ∷ blocks [] es) h (more_blocks (l ∷ []) (blocks [] es) (inr (not_shared l.command e, refl)) rest))
    by_line false e rest more = rw e (more (shared l.command e))

from_entries : (r : Result (List Entry) ScriptError) (bs : List (List Line)) → blocks_of r ≡ Ok bs → AreBlocks bs
from_entries (Ok es) bs h = let same : blocks [] es ≡ bs = cc in subst AreBlocks same (are_blocks [] es (tt {0}))
from_entries (Err e) bs h = absurd (cc)

from_text : (text : List ℕ) (long : Bool) (bs : List (List Line)) → (if long then Err TooLong else blocks_of (entries 1 (lines_of text))) ≡ Ok bs → AreBlocks bs
from_text text true bs h = absurd (cc)
from_text text false bs h = from_entries (entries 1 (lines_of text)) bs h

block_in : (bs : List (List Line)) (i : ℕ) (b : List Line) → AreBlocks bs → slice_get bs i ≡ Some b → IsBlock b
unfolding AreBlocks
block_in [] i b h e = absurd (cc)
block_in (a ∷ bs) zero b h e = let same : a ≡ b = cc in subst IsBlock same h.0
block_in (a ∷ bs) (suc i) b h e = block_in bs i b h.1 e

pub read_block : (bs : List (List Line)) (i : ℕ) (b : List Line) → WasRead bs → slice_get bs i ≡ Some b → IsBlock b
read_block bs i b h e = block_in bs i b (from_text h.0 (is_too_long h.0) bs h.1) e
