-- A manifest's number and its blob's number speak of one blob.
use Rattle.std.proofs.Common.{◌≡◌, ◌<◌, ◌+◌, ℕ, zero, suc, List, [], ◌∷◌, Bool, true, false, Option, Some, None, ap, length, arith, refl, sym, ◌∙◌}
use Rattle.std.specs.Prelude.{slice_get, filter, cond}
use Rattle.std.specs.List.{position_from}
use Rattle.std.proofs.lemmas.Slice.Eq.{bytes_eq-Decides}
use Rattle.cache_outside.specs.Listing.{Listing, blob_bytes, is_named, is_manifest, is_manifest_name, manifests, manifest_number, place_of}
use Rattle.blob_parts.specs.Content.{text_of}

-- ---- what a search finds

abbrev pub first : {X : Type 0} → (X → Bool) → List X → Option X
first test [] = None
first test (x ∷ xs) = cond (test x) (Some x) (first test xs)

pub record Found {X : Type 0} (test : X → Bool) (n : ℕ) (xs : List X) (k : ℕ) : Type 0 where
  pub place : ℕ
  pub is : k ≡ n + place
  pub inside : place < length xs
  pub same : slice_get xs place ≡ first test xs

found_head : {X : Type 0} (test : X → Bool) (n : ℕ) (x : X) (xs : List X) (k : ℕ) (passes : Bool)
    → test x ≡ passes → position_from test n (x ∷ xs) ≡ Some k
    → (position_from test (n + 1) xs ≡ Some k → Found test (n + 1) xs k) → Found test n (x ∷ xs) k
found_head test n x xs k true e h rest =
    let here = rw e at h in
    let same : n ≡ k = cc in
    record { place = 0; is = omega (arith, same); inside = omega arith; same = rw e refl }
found_head test n x xs k false e h rest =
    let later = rw e at h in
    let found = rest later in
    record { place = suc found.place; is = omega (arith, found.is); inside = omega (arith, found.inside); same = rw e found.same }

found : {X : Type 0} (test : X → Bool) (n : ℕ) (xs : List X) (k : ℕ) → position_from test n xs ≡ Some k → Found test n xs k
found test n [] k h = absurd (cc)
found test n (x ∷ xs) k h = found_head test n x xs k (test x) refl h (λ later. found test (n + 1) xs k later)

found_first : {X : Type 0} (test : X → Bool) (xs : List X) (k : ℕ) → position_from test 0 xs ≡ Some k → slice_get xs k ≡ first test xs
found_first test xs k h =
    let at = found test 0 xs k h in
    let e : at.place ≡ k = omega (arith, at.is) in
    let same = rw e at at.same in same

-- a blob that is found is one of the list
pub place_below : (name : List ℕ) (blobs : Listing) (b : ℕ) → place_of name blobs ≡ Some b → b < length blobs
place_below name blobs b h = let at = found (is_named name) 0 blobs b h in omega (arith, at.is, at.inside)

-- ---- what is not in the list is not in a part of it

none_head : {X : Type 0} (test keeps : X → Bool) (n m : ℕ) (x : X) (xs : List X) (passes kept : Bool)
    → test x ≡ passes → keeps x ≡ kept → position_from test n (x ∷ xs) ≡ None
    → ((j : ℕ) → position_from test (n + 1) xs ≡ None → position_from test j (filter keeps xs) ≡ None)
    → position_from test m (filter keeps (x ∷ xs)) ≡ None
none_head test keeps n m x xs true kept e f h rest = let here = rw e at h in absurd (cc)
none_head test keeps n m x xs false true e f h rest = let later = rw e at h in rw (f, e) (rest (m + 1) later)
none_head test keeps n m x xs false false e f h rest = let later = rw e at h in rw f (rest m later)

none_kept : {X : Type 0} (test keeps : X → Bool) (n m : ℕ) (xs : List X) → position_from test n xs ≡ None → position_from test m (filter keeps xs) ≡ None
none_kept test keeps n m [] h = refl
none_kept test keeps n m (x ∷ xs) h = none_head test keeps n m x xs (test x) (keeps x) refl refl h (λ j later. none_kept test keeps (n + 1) j xs later)

-- a name that no blob has is no manifest's
pub none_named : (name : List ℕ) (blobs : Listing) → place_of name blobs ≡ None → manifest_number name blobs ≡ None
none_named name blobs h = none_kept (is_named name) is_manifest 0 0 blobs h

-- ---- the first blob with a manifest's name is the manifest

named_same : (name : List ℕ) (b : List ℕ × List ℕ) → is_named name b ≡ true → is_manifest b ≡ is_manifest_name name
named_same name b h = ap is_manifest_name ((bytes_eq-Decides b.0 name).0 h)

mark_head : (name : List ℕ) (n m : ℕ) (b : List ℕ × List ℕ) (bs : Listing) (kept passes : Bool)
    → is_manifest b ≡ kept → is_named name b ≡ passes
    → position_from (is_named name) n (manifests (b ∷ bs)) ≡ Some m
    → ((j : ℕ) → position_from (is_named name) j (manifests bs) ≡ Some m → is_manifest_name name ≡ true)
    → is_manifest_name name ≡ true
mark_head name n m b bs true true e f h rest = sym (named_same name b f) ∙ e
mark_head name n m b bs true false e f h rest = let later = rw (e, f) at h in rest (n + 1) later
mark_head name n m b bs false passes e f h rest = let later = rw e at h in rest n later

mark : (name : List ℕ) (n m : ℕ) (blobs : Listing) → position_from (is_named name) n (manifests blobs) ≡ Some m → is_manifest_name name ≡ true
mark name n m [] h = absurd (cc)
mark name n m (b ∷ bs) h = mark_head name n m b bs (is_manifest b) (is_named name b) refl refl h (λ j later. mark name j m bs later)

first_head : (name : List ℕ) (b : List ℕ × List ℕ) (bs : Listing) (kept passes : Bool)
    → is_manifest b ≡ kept → is_named name b ≡ passes → is_manifest_name name ≡ true
    → first (is_named name) (manifests bs) ≡ first (is_named name) bs
    → first (is_named name) (manifests (b ∷ bs)) ≡ first (is_named name) (b ∷ bs)
first_head name b bs true true e f marked rest = rw (e, f) refl
first_head name b bs true false e f marked rest = rw (e, f) rest
first_head name b bs false true e f marked rest = let same = named_same name b f in absurd (cc)
first_head name b bs false false e f marked rest = rw (e, f) rest

same_first : (name : List ℕ) (blobs : Listing) → is_manifest_name name ≡ true → first (is_named name) (manifests blobs) ≡ first (is_named name) blobs
same_first name [] marked = refl
same_first name (b ∷ bs) marked = first_head name b bs (is_manifest b) (is_named name b) refl refl marked (same_first name bs marked)

text_at : (blobs : Listing) (b : ℕ) → text_of (slice_get blobs b) ≡ blob_bytes blobs b
text_at [] b = refl
text_at (x ∷ blobs) zero = refl
text_at (x ∷ blobs) (suc b) = text_at blobs b

-- the text of a manifest is that of the blob with its name
pub text_same : (name : List ℕ) (blobs : Listing) (m b : ℕ) → manifest_number name blobs ≡ Some m → place_of name blobs ≡ Some b
    → text_of (slice_get (manifests blobs) m) ≡ blob_bytes blobs b
text_same name blobs m b number place =
    let one = found_first (is_named name) (manifests blobs) m number in
    let two = found_first (is_named name) blobs b place in
    ap text_of (one ∙ same_first name blobs (mark name 0 m blobs number) ∙ sym two) ∙ text_at blobs b
