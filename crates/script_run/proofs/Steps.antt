-- What a run did, line after line and block after block.
use Rattle.std.proofs.Common.{◌≡◌, ◌∙◌, ◌+◌, ℕ, zero, suc, List, [], ◌∷◌, ◌++◌, length, take, sym, subst, ap, ap₂, refl, Bool}
use Rattle.std.specs.Prelude.{Option, Some, None, Result, Ok, Err, option_map, IfSome}
use Rattle.std.proofs.Math.Seq.{take-length}
use Rattle.cache_outside.specs.Clocks.{first_time, times_after}
use Rattle.cache_outside.specs.Listing.{Listing}
use Rattle.cache_outside.specs.Sources.{SourceView}
use Rattle.blob_parts.specs.Loads.{asked}
use Rattle.blob_parts.specs.Reading.{took_none}
use Rattle.blob_parts.specs.Takes.{Took, Takes}
use Rattle.index_mounts.specs.Rosters.{RosterView, no_mounts}
use Rattle.cache_door.specs.Cores.{state_of}
use Rattle.mount_script.specs.declared.command.Command.{Command}
use Rattle.mount_script.specs.declared.command.Line.{Line}
use Rattle.mount_script.specs.declared.reply.Reply.{Reply}
use Rattle.script_run.specs.Bytes.{ManifestTook}
use Rattle.script_run.specs.Room.{OnceLaws}
use Rattle.cache_door.specs.Good.{Good}
use Rattle.script_run.specs.Clocks.{times_asked, first_times}
use Rattle.script_run.specs.Lines.{Cached}
use Rattle.script_run.specs.Blocks.{Point, LineWent, LinesWent, BlockWent, BlocksWent, IsFirst, TimesTold, RunWent}

-- ---- a manifest's bytes

pub manifest_none : (blobs : Listing) (manifest : List ℕ) (a b : SourceView) → b ≡ a → ManifestTook blobs manifest a b
manifest_none blobs manifest a b e = (0, subst (λ (s : SourceView). Took a.reads s.reads (take 0 (asked blobs manifest))) (sym e) (took_none a.reads (asked blobs manifest)))

pub manifest_took : {T E : Type 0} (blobs : Listing) (manifest : List ℕ) (a b : SourceView) (r : Result T E) → Takes a.reads b.reads (asked blobs manifest) r → ManifestTook blobs manifest a b
manifest_took blobs manifest a b (Ok x) h = (length (asked blobs manifest), subst (Took a.reads b.reads) (sym (take-length (asked blobs manifest))) h)
manifest_took blobs manifest a b (Err e) h = h

-- a block of one line
pub single_line : (block : List Line) (l : Line) (c : Command) → block ≡ l ∷ [] → l.command ≡ c → block ≡ record { number = l.number; command = c } ∷ []
single_line block l c one is = one ∙ ap (λ (d : Command). (record { number = l.number; command = d }) ∷ []) is

-- ---- one line more

pub lines_more : (e : Cached) (now : ℕ) (r : RosterView) (ls : List Line) (gs : List Reply) (l : Line) (g : Reply) (x y z : Point)
    → LinesWent e now r ls gs x y → LineWent e now r l.command g y z → LinesWent e now r (ls ++ l ∷ []) (gs ++ g ∷ []) x z
lines_more e now r [] [] l g x y z h k = (z, subst (λ (p : Point). LineWent e now r l.command g p z) h k, refl)
lines_more e now r [] (f ∷ gs) l g x y z h k = absurd h
lines_more e now r (m ∷ ls) [] l g x y z h k = absurd h
lines_more e now r (m ∷ ls) (f ∷ gs) l g x y z h k = (h.0, h.1, lines_more e now r ls gs l g h.0 y z h.2 k)

pub lines_as : (e : Cached) (now : ℕ) (r : RosterView) (ls ls' : List Line) (gs gs' : List Reply) (x y : Point) → ls' ≡ ls → gs' ≡ gs → LinesWent e now r ls gs x y → LinesWent e now r ls' gs' x y
lines_as e now r ls ls' gs gs' x y f k h =
    let P : List Line → Type 0 = λ ms. LinesWent e now r ms gs x y in
    let Q : List Reply → Type 0 = λ hs. LinesWent e now r ls' hs x y in
    subst Q (sym k) (subst P (sym f) h)

-- ---- one block more

pub count_more : (bs : List (List Line)) (b : List Line) → length (bs ++ b ∷ []) ≡ suc (length bs)
count_more [] b = refl
count_more (c ∷ bs) b = ap suc (count_more bs b)

pub blocks_more : (e : Cached) (ns : List ℕ) (r q t : RosterView) (bs : List (List Line)) (gss : List (List Reply)) (n : ℕ) (b : List Line) (gs : List Reply) (x y z : Point)
    → BlocksWent e ns r q bs gss x y → BlockWent e n q t b gs y z → BlocksWent e (ns ++ n ∷ []) r t (bs ++ b ∷ []) (gss ++ gs ∷ []) x z
blocks_more e [] r q t [] [] n b gs x y z h k =
    let P : RosterView → Type 0 = λ s. BlockWent e n s t b gs y z in
    let Q : Point → Type 0 = λ p. BlockWent e n r t b gs p z in
    (t, z, subst Q h.1 (subst P h.0 k), (refl, refl))
blocks_more e [] r q t [] (f ∷ gss) n b gs x y z h k = absurd h
blocks_more e [] r q t (c ∷ bs) gss n b gs x y z h k = absurd h
blocks_more e (m ∷ ns) r q t [] gss n b gs x y z h k = absurd h
blocks_more e (m ∷ ns) r q t (c ∷ bs) [] n b gs x y z h k = absurd h
blocks_more e (m ∷ ns) r q t (c ∷ bs) (f ∷ gss) n b gs x y z h k = (h.0, h.1, h.2, blocks_more e ns h.0 q t bs gss n b gs h.1 y z h.3 k)

times_more : (n : ℕ) (ts : List ℕ) → first_times n ts ++ first_time (times_asked n ts) ∷ [] ≡ first_times (suc n) ts
times_more zero ts = refl
times_more (suc n) ts = ap (λ (us : List ℕ). first_time ts ∷ us) (times_more n (times_after ts))

pub told_more : (n now : ℕ) (t u : Option (List ℕ)) (times : List ℕ) → TimesTold n t times → u ≡ option_map (times_asked n) t → IfSome u (λ ts. now ≡ first_time ts) → TimesTold (suc n) t (times ++ now ∷ [])
told_more n now None u times h e k = tt {0}
told_more n now (Some ts) u times h e k =
    let own : now ≡ first_time (times_asked n ts) = subst (λ (o : Option (List ℕ)). IfSome o (λ us. now ≡ first_time us)) e k in
    ap₂ (λ (us : List ℕ) (m : ℕ). us ++ m ∷ []) h own ∙ times_more n ts

pub went_more : (e : Cached) (done : List (List Line)) (replies : List (List Reply)) (r q : RosterView) (t u : Option (List ℕ)) (x y z : Point) (now : ℕ) (block : List Line) (xs : List Reply)
    → RunWent e done replies r t x y → u ≡ option_map (times_asked (length done)) t → IfSome u (λ ts. now ≡ first_time ts) → BlockWent e now r q block xs y z
    → RunWent e (done ++ block ∷ []) (replies ++ xs ∷ []) q t x z
went_more e done replies r q t u x y z now block xs h asked_times answered k = record {
  times = h.times ++ now ∷ [];
  told = subst (λ (n : ℕ). TimesTold n t (h.times ++ now ∷ [])) (sym (count_more done block)) (told_more (length done) now t u h.times h.told asked_times answered);
  first = h.first;
  limits = h.limits;
  few = h.few;
  count = h.count;
  laws = h.laws;
  went = blocks_more e h.times no_mounts r q done replies now block xs x y z h.went k;
}

-- before the first block
pub went_none : {tells : Bool} {contents : ℕ → ℕ → List ℕ} (e : Cached) (r : RosterView) (t : Option (List ℕ)) (x : Point) → r ≡ no_mounts → IsFirst e.config (state_of x.core)
    → OnceLaws e.blobs → Good tells contents (state_of x.core) → RunWent e [] [] r t x x
went_none {tells} {contents} e r t x same first laws good =
    let fits = laws.fit.first tells contents e.config first.0 first.1 1 (subst (Good tells contents) first.2 good) in record {
      times = [];
      told = by_cases t;
      first = first;
      limits = fits.0;
      few = fits.1;
      count = fits.2;
      laws = laws;
      went = (same, refl);
    }
  where
    by_cases : (o : Option (List ℕ)) → TimesTold 0 o []
    by_cases None = tt {0}
    by_cases (Some ts) = refl
