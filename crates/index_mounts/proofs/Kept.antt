-- What is true of every roster stays so.
use Rattle.std.proofs.Common.{◌≡◌, ◌∙◌, ◌<◌, ◌+◌, refl, sym, ap, subst, arith, ℕ, List, Bool, true, false, cond}
use Rattle.std.specs.Prelude.{Option, Some, None, option_map, IfSome, Ok, is_some, nat_le}
use Rattle.std.specs.Borrow.{Bor}
use Rattle.std.specs.Str.{bytes_eq}
use Rattle.std.specs.Ordering.{nat_cmp}
use Rattle.std.specs.Cmp.Lexicographic.{slice_cmp}
use Rattle.std.specs.List.Sorted.{IsStrictlySortedBy}
use Rattle.std.specs.Map.{keys_of}
use Rattle.std.proofs.lemmas.Slice.Eq.{bytes_eq-Decides}
use Rattle.std.proofs.lemmas.Bool.{leb-false}
use Rattle.cache_outside.specs.Listing.{Listing}
use Rattle.index_mounts.specs.Rosters.{MountView, RosterView, mounted, IsMount, IsRoster, IsResolved}
use Rattle.index_mounts.specs.Calls.{check_of}

module _ (tells : Bool) (blobs : Listing) (r : RosterView) (kept : IsRoster tells blobs r) where
  -- what a look-up finds
  module _ {X : Type 0} (view : X → MountView) (name : List ℕ) where
    pub found_kept : (o : Option (Bor X)) → option_map (λ m. view m.now) o ≡ mounted name r → IfSome o (λ m. IsMount tells blobs r.made (view m.now))
    found_kept None e = tt
    found_kept (Some m) e = kept.mounts name (view m.now) (sym e)

    pub found_below : (o : Option (Bor X)) → option_map (λ m. view m.now) o ≡ mounted name r → IfSome o (λ m. (view m.now).mount < 4096)
    found_below None e = tt
    found_below (Some m) e = let own = kept.mounts name (view m.now) (sym e) in omega (arith, own.below, kept.few)

  module _ (name : List ℕ) (now : RosterView) (ascend : IsStrictlySortedBy (slice_cmp nat_cmp) (keys_of now.mounts)) where
    -- with a mount more
    module _ (new : MountView) (number : new.mount ≡ r.made) (resolved : IsResolved tells blobs new.number new.facts new.parts) (room : r.made < 4096) (made : now.made ≡ r.made + 1) (here : (other : List ℕ) → mounted other now ≡ cond (bytes_eq name other) (Some new) (mounted other r)) where
      with_mounts : (other : List ℕ) (m : MountView) (same : Bool) → bytes_eq name other ≡ same → mounted other now ≡ Some m → IsMount tells blobs now.made m
      with_mounts other m true e h =
          let at = rw e at (here other) in
          let is : new ≡ m = cc in
          subst (IsMount tells blobs now.made) is (record { below = omega (arith, number, made); resolved = resolved })
      with_mounts other m false e h =
          let at = rw e at (here other) in
          let own = kept.mounts other m (sym at ∙ h) in
          record { below = omega (arith, own.below, made); resolved = own.resolved }

      with_once : (one other : List ℕ) (m n : MountView) (same also : Bool) → bytes_eq name one ≡ same → bytes_eq name other ≡ also
          → mounted one now ≡ Some m → mounted other now ≡ Some n → m.mount ≡ n.mount → one ≡ other
      with_once one other m n true true e f g h k = sym ((bytes_eq-Decides name one).0 e) ∙ (bytes_eq-Decides name other).0 f
      with_once one other m n true false e f g h k =
          let at = rw e at (here one) in
          let is : new ≡ m = cc in
          let later = rw f at (here other) in
          let own = kept.mounts other n (sym later ∙ h) in
          let numbers : new.mount ≡ m.mount = ap (λ x. x.mount) is in
          absurd (omega (arith, own.below, number, numbers, k))
      with_once one other m n false true e f g h k =
          let at = rw f at (here other) in
          let is : new ≡ n = cc in
          let earlier = rw e at (here one) in
          let own = kept.mounts one m (sym earlier ∙ g) in
          let numbers : new.mount ≡ n.mount = ap (λ x. x.mount) is in
          absurd (omega (arith, own.below, number, numbers, k))
      with_once one other m n false false e f g h k =
          let earlier = rw e at (here one) in
          let later = rw f at (here other) in
          kept.once one other m n (sym earlier ∙ g) (sym later ∙ h) k

      pub kept_with : IsRoster tells blobs now
      kept_with = record {
        few = omega (arith, room, made);
        ascend = ascend;
        mounts = λ other m h. with_mounts other m (bytes_eq name other) refl h;
        once = λ one other m n g h k. with_once one other m n (bytes_eq name one) (bytes_eq name other) refl refl g h k;
      }

    -- without a mount
    module _ (made : now.made ≡ r.made) (gone : (other : List ℕ) → mounted other now ≡ cond (bytes_eq name other) None (mounted other r)) where
      stays : (other : List ℕ) (m : MountView) (same : Bool) → bytes_eq name other ≡ same → mounted other now ≡ Some m → mounted other r ≡ Some m
      stays other m true e h = let at = rw e at (gone other) in absurd (cc)
      stays other m false e h = let at = rw e at (gone other) in sym at ∙ h

      pub kept_without : IsRoster tells blobs now
      kept_without = record {
        few = omega (arith, kept.few, made);
        ascend = ascend;
        mounts = λ other m h. let own = kept.mounts other m (stays other m (bytes_eq name other) refl h) in record { below = omega (arith, own.below, made); resolved = own.resolved };
        once = λ one other m n g h k. kept.once one other m n (stays one m (bytes_eq name one) refl g) (stays other n (bytes_eq name other) refl h) k;
      }

-- where a mount can be made there is room
room_of : (name : List ℕ) (r : RosterView) (taken full : Bool) → is_some (mounted name r) ≡ taken → nat_le 4096 r.made ≡ full → check_of name r ≡ Ok (tt {0}) → r.made < 4096
room_of name r true full e f h = let refused = rw e at h in absurd (cc)
room_of name r false true e f h = let refused = rw (e, f) at h in absurd (cc)
room_of name r false false e f h = leb-false 4096 r.made f

pub has_room : (name : List ℕ) (r : RosterView) → check_of name r ≡ Ok (tt {0}) → r.made < 4096
has_room name r h = room_of name r (is_some (mounted name r)) (nat_le 4096 r.made) refl refl h
