-- Behind each line and block the shelves of a run belong to its mounts.
use Rattle.std.proofs.Common.{◌≡◌, ◌∙◌, refl, sym, ap, subst, ℕ, List, [], ◌∷◌, ◌++◌, Bool, true, false, cond, inl, inr, zero, suc, arith}
use Rattle.std.specs.Prelude.{◌≢◌, ◌<◌, ◌≤◌, Option, Some, None, length, slice_set, if◌then◌else◌}
use Rattle.std.specs.Option.{ForSome}
use Rattle.std.specs.Str.{bytes_eq}
use Rattle.std.proofs.lemmas.Bool.{cases_eq}
use Rattle.std.proofs.lemmas.List.{get_or-set_same, get_or-set_other}
use Rattle.cache_outside.specs.Listing.{Listing}
use Rattle.mount_manifest.specs.Manifest.{Facts}
use Rattle.blob_parts.specs.Tables.{TableParts}
use Rattle.index_mounts.specs.Rosters.{MountView, RosterView, mounted, with_mount, IsRoster}
use Rattle.mount_script.specs.declared.command.Command.{Command}
use Rattle.mount_script.specs.declared.command.Command.TheVariants.{Mount, Unmount, Clear, Decay, Stats, Search, Fetch, Read}
use Rattle.mount_script.specs.declared.command.Line.{Line}
use Rattle.mount_script.specs.declared.reply.Reply.{Reply}
use Rattle.mount_script.specs.declared.reply.Reply.TheVariants as reply
use Rattle.simpletext_postings.specs.Terms.{TermTable}
use Rattle.shard_search.proofs.Shelves.{empty_fits}
use Rattle.shard_replies.specs.ExpectedReplies.{used_name}
use Rattle.script_run.specs.Blocks.{Forgotten, forgets_any}
use Rattle.script_run.specs.Lines.{named}
use Rattle.script_run.specs.MountLines.{RosterGoes}
use Rattle.script_run.specs.Shelves.{files_of, BelongsTo, IsNumber, shelf_at, ShelvesFit, OneTaken, MayPut}
use Rattle.script_run.proofs.Rosters.{mounted_with}

-- ---- names

pub used_is_named : (c : Command) (name : List ℕ) → named c ≡ Some name → used_name c ≡ name
used_is_named (Mount other manifest) name e = absurd (cc)
used_is_named (Unmount other) name e = cc
used_is_named (Clear other) name e = cc
used_is_named Decay name e = absurd (cc)
used_is_named Stats name e = absurd (cc)
used_is_named (Search other size text) name e = cc
used_is_named (Fetch other segment doc) name e = cc
used_is_named (Read other file at len) name e = cc

-- ---- one shelf

pub belongs_empty : (tells : Bool) (blobs : Listing) (shelf : List (Option TermTable)) (m : MountView) → shelf ≡ [] → BelongsTo tells blobs shelf m
belongs_empty tells blobs shelf m e = subst (λ (s : List (Option TermTable)). BelongsTo tells blobs s m) (sym e) (empty_fits (files_of tells blobs m) m.facts.segments)

-- one place more has an empty shelf
pub empty_shelf : (shelves : List (List (Option TermTable))) (i : ℕ) → shelf_at (shelves ++ [] ∷ []) i ≡ shelf_at shelves i
empty_shelf [] zero = refl
empty_shelf [] (suc i) = refl
empty_shelf (s ∷ ss) zero = refl
empty_shelf (s ∷ ss) (suc i) = empty_shelf ss i

-- behind the last place there is an empty one
pub past_last : (shelves : List (List (Option TermTable))) (i : ℕ) → length shelves ≤ i → shelf_at shelves i ≡ []
past_last [] zero h = refl
past_last [] (suc i) h = refl
past_last (s ∷ ss) zero h = absurd (omega (arith, h))
past_last (s ∷ ss) (suc i) h = let k : length ss ≤ i = omega (arith, h) in past_last ss i k

-- a shelf was put at a place that is there
module _ (before now : List (List (Option TermTable))) (n : ℕ) (s : List (Option TermTable)) (below : n < length before) (put : now ≡ slice_set before n s) where
  pub set_here : shelf_at now n ≡ s
  set_here = ap (λ l. shelf_at l n) put ∙ get_or-set_same before n s [] below

  pub set_others : (i : ℕ) → i ≢ n → shelf_at now i ≡ shelf_at before i
  set_others i ne = ap (λ l. shelf_at l i) put ∙ get_or-set_other before n i s [] ne

-- ---- all shelves

pub fits_new : (tells : Bool) (blobs : Listing) (r : RosterView) (shelves : List (List (Option TermTable))) → shelves ≡ [] → ShelvesFit tells blobs r shelves
fits_new tells blobs r shelves e = record {
  each = λ name m at. belongs_empty tells blobs (shelf_at shelves m.mount) m (none m.mount);
  beyond = λ n past. none n;
}
  where
    nothing : (n : ℕ) → shelf_at [] n ≡ []
    nothing zero = refl
    nothing (suc n) = refl

    none : (n : ℕ) → shelf_at shelves n ≡ []
    none n = ap (λ l. shelf_at l n) e ∙ nothing n

pub fits_taken : (tells : Bool) (blobs : Listing) (r : RosterView) (n : ℕ) (before now : List (List (Option TermTable))) → ShelvesFit tells blobs r before → OneTaken n before now → ShelvesFit tells blobs r now
fits_taken tells blobs r n before now h t = record {
  each = λ name m at. elim (cases_eq m.mount n) [
    | inl e ↦ belongs_empty tells blobs (shelf_at now m.mount) m (ap (λ (i : ℕ). shelf_at now i) e ∙ t.here)
    | inr ne ↦ subst (λ (s : List (Option TermTable)). BelongsTo tells blobs s m) (sym (t.others m.mount ne)) (h.each name m at)
  ];
  beyond = λ i past. elim (cases_eq i n) [
    | inl e ↦ ap (λ (j : ℕ). shelf_at now j) e ∙ t.here
    | inr ne ↦ t.others i ne ∙ h.beyond i past
  ];
}

-- the mount that has a number
number_there : (o : Option MountView) (n : ℕ) → IsNumber o n → (m : MountView) × (o ≡ Some m) × (m.mount ≡ n)
number_there None n h = absurd h
number_there (Some m) n h = (m, refl, h)

pub fits_own : (tells : Bool) (blobs : Listing) (r : RosterView) (name : List ℕ) (n : ℕ) (shelf : List (Option TermTable)) (shelves : List (List (Option TermTable))) → ShelvesFit tells blobs r shelves
    → IsNumber (mounted name r) n → shelf ≡ shelf_at shelves n → ForSome (mounted name r) (BelongsTo tells blobs shelf)
fits_own tells blobs r name n shelf shelves h number is = λ k at.
    let m = number_there (mounted name r) n number in
    let same : m.0 ≡ k = let one : mounted name r ≡ Some m.0 = m.1 in cc in
    let own : k.mount ≡ n = ap (λ (j : MountView). j.mount) (sym same) ∙ m.2 in
    subst (λ (s : List (Option TermTable)). BelongsTo tells blobs s k) (ap (shelf_at shelves) own ∙ sym is) (h.each name k at)

module _ (tells told : Bool) (blobs : Listing) (r : RosterView) (kept : IsRoster told blobs r) (name : List ℕ) (m : MountView) (there : mounted name r ≡ Some m) (n : ℕ) (number : m.mount ≡ n)
    (shelf : List (Option TermTable)) (own : ForSome (mounted name r) (BelongsTo tells blobs shelf)) (before now : List (List (Option TermTable))) (h : ShelvesFit tells blobs r before) (p : MayPut n shelf before now) where
  same_mount : (other : List ℕ) (k : MountView) → mounted other r ≡ Some k → k.mount ≡ n → m ≡ k
  same_mount other k at e =
      let is : other ≡ name = kept.once other name k m at there (e ∙ sym number) in
      let also : mounted name r ≡ Some k = subst (λ (t : List ℕ). mounted t r ≡ Some k) is at in
      cc

  put_here : (other : List ℕ) (k : MountView) → mounted other r ≡ Some k → k.mount ≡ n → BelongsTo tells blobs (shelf_at now n) k
  put_here other k at e = elim p.here [
    | inl is ↦ subst (λ (s : List (Option TermTable)). BelongsTo tells blobs s k) (sym is) (own k (subst (λ (j : MountView). mounted name r ≡ Some j) (same_mount other k at e) there))
    | inr is ↦ subst (λ (s : List (Option TermTable)). BelongsTo tells blobs s k) (sym is) (subst (λ (i : ℕ). BelongsTo tells blobs (shelf_at before i) k) e (h.each other k at))
  ]

  fits_with : ShelvesFit tells blobs r now
  fits_with = record {
    each = λ other k at. elim (cases_eq k.mount n) [
      | inl e ↦ subst (λ (i : ℕ). BelongsTo tells blobs (shelf_at now i) k) (sym e) (put_here other k at e)
      | inr ne ↦ subst (λ (s : List (Option TermTable)). BelongsTo tells blobs s k) (sym (p.others k.mount ne)) (h.each other k at)
    ];
    beyond = λ i past. elim (cases_eq i n) [
      | inl e ↦ let few : m.mount < r.made = (kept.mounts name m there).below in absurd (omega (arith, few, past, e, number))
      | inr ne ↦ p.others i ne ∙ h.beyond i past
    ];
  }

-- a line took the shelf of its mount out, and put it in behind it
pub fits_put : (tells told : Bool) (blobs : Listing) (r : RosterView) (name : List ℕ) (n : ℕ) (shelf : List (Option TermTable)) (before between now : List (List (Option TermTable))) → IsRoster told blobs r
    → ShelvesFit tells blobs r before → IsNumber (mounted name r) n → OneTaken n before between → ForSome (mounted name r) (BelongsTo tells blobs shelf) → MayPut n shelf between now
    → ShelvesFit tells blobs r now
fits_put tells told blobs r name n shelf before between now kept h number t own p =
    let m = number_there (mounted name r) n number in
    fits_with tells told blobs r kept name m.0 m.1 n m.2 shelf own between now (fits_taken tells blobs r n before between h t) p

-- ---- a mount more, and mounts that were taken away

module _ (tells : Bool) (blobs : Listing) (name : List ℕ) (number : ℕ) (facts : Facts) (parts : TableParts) (r : RosterView) (shelves : List (List (Option TermTable))) (h : ShelvesFit tells blobs r shelves) where
  abbrev added : MountView
  added = record { mount = r.made; number = number; facts = facts; parts = parts }

  by_name : (other : List ℕ) (m : MountView) (b : Bool) → cond b (Some added) (mounted other r) ≡ Some m → BelongsTo tells blobs (shelf_at shelves m.mount) m
  by_name other m true e = let is : added ≡ m = cc in
      let last : r.made ≤ r.made = omega arith in
      belongs_empty tells blobs (shelf_at shelves m.mount) m (ap (λ (k : MountView). shelf_at shelves k.mount) (sym is) ∙ h.beyond r.made last)
  by_name other m false e = h.each other m e

  pub fits_one_more : ShelvesFit tells blobs (with_mount name number facts parts r) shelves
  fits_one_more = record {
    each = λ other m at. by_name other m (bytes_eq name other) (sym (mounted_with name number facts parts r other) ∙ at);
    beyond = λ n past. let k : r.made ≤ n = omega (arith, past) in h.beyond n k;
  }

module _ (tells told : Bool) (blobs : Listing) (name manifest : List ℕ) (r q : RosterView) (shelves : List (List (Option TermTable))) (h : ShelvesFit tells blobs r shelves) where
  as_before : q ≡ r → ShelvesFit tells blobs q shelves
  as_before e = subst (λ (s : RosterView). ShelvesFit tells blobs s shelves) (sym e) h

  -- behind a `mount` line
  pub fits_mounted : (x : Reply) → RosterGoes told blobs name manifest r q x → ShelvesFit tells blobs q shelves
  fits_mounted (reply.Mounted files docs) g = subst (λ (s : RosterView). ShelvesFit tells blobs s shelves) (sym g.made) (fits_one_more tells blobs name g.number g.facts g.parts r shelves h)
  fits_mounted reply.Unmounted g = as_before g
  fits_mounted reply.Cleared g = as_before g
  fits_mounted reply.Decayed g = as_before g
  fits_mounted (reply.Hits total shown) g = as_before g
  fits_mounted (reply.Fields fields) g = as_before g
  fits_mounted (reply.Bytes bytes) g = as_before g
  fits_mounted (reply.Stats free listed leaving evictions promotions demotions fetched direct) g = as_before g
  fits_mounted (reply.Refused text) g = as_before g
  fits_mounted reply.Fault g = as_before g
  fits_mounted reply.Gone g = as_before g
  fits_mounted reply.NoMemory g = as_before g

-- behind a block
module _ (tells : Bool) (blobs : Listing) (block : List Line) (replies : List Reply) (r q : RosterView) (shelves : List (List (Option TermTable))) (f : Forgotten block replies r q) (h : ShelvesFit tells blobs r shelves) where
  still_there : (other : List ℕ) (m : MountView) (b : Bool) → (if b then None else mounted other r) ≡ Some m → BelongsTo tells blobs (shelf_at shelves m.mount) m
  still_there other m true e = absurd (cc)
  still_there other m false e = h.each other m e

  pub fits_forgotten : ShelvesFit tells blobs q shelves
  fits_forgotten = record {
    each = λ other m at. still_there other m (forgets_any block replies other) (sym (f.mounts other) ∙ at);
    beyond = λ n past. let k : r.made ≤ n = rw f.made at past in h.beyond n k;
  }
