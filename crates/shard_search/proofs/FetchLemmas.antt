-- What a fetch gives.
use Rattle.std.proofs.Common.{◌≡◌, ◌≢◌, ◌⊎◌, inl, inr, ℕ, suc, zero, ◌+◌, ◌<◌, ◌≤◌, Bool, true, false, List, [], ◌∷◌, length, filter, sym, refl, ap, ◌∙◌, arith, Option, Some, None, Ok, Err}
use Rattle.std.specs.Prelude.{Result, slice_get, slice_index_or, ◌==◌, ◌||◌, ◌&&◌, if◌then◌else◌}
use Rattle.std.specs.Option.{ForSome}
use Rattle.std.specs.List.{range_with_len, list_any}
use Rattle.std.proofs.lemmas.Bool.{lt-ltb}
use Rattle.std.proofs.lemmas.Bool.Decides.{eqb_tells}
use Rattle.std.proofs.Math.Bool.{and-true, and-false}
use Rattle.shard_search.proofs.FileLemmas.{was_read}
use Rattle.text_lines.specs.declared.errors.TextError.{TextError}
use Rattle.text_lines.specs.declared.errors.TextError.TheVariants.{Bad, Bytes}
use Rattle.doc_bits.specs.Places.{places_of}
use Rattle.mount_manifest.specs.declared.record.Segment.{Segment}
use Rattle.simpletext_stored.specs.Stored.{stored}
use Rattle.simpletext_stored.specs.Answers.{Opens, IsSaid, HasDocument}
use Rattle.simpletext_stored.specs.declared.field.StoredField.{StoredField}
use Rattle.shard_search.specs.Hits.{BadFile, in_file, live_in, document, fields_of, ◌>>=◌}
use Rattle.shard_search.specs.Answers.{RefusesBy, refused_in, GivesLive, is_alive}

pub not_opened : (T : Type 0) (f n : ℕ) (e : TextError) (text whole : List ℕ) → text ≡ whole → Opens {S = T} (Err e) (stored text n) → RefusesBy (refused_in f e) (in_file f (stored whole n))
not_opened T f n (Bad at) text whole e h = ap (λ t. in_file f (stored t n)) (sym e) ∙ ap (in_file f) h
not_opened T f n (Bytes b) text whole e h = tt

-- whether a number is among those of a list that pass a test
any_cases : (p : ℕ → Bool) (d x : ℕ) (xs : List ℕ) (b : Bool) → p x ≡ b → list_any (λ e. e == d) (filter p xs) ≡ (p d && list_any (λ e. e == d) xs)
    → list_any (λ e. e == d) (filter p (x ∷ xs)) ≡ (p d && list_any (λ e. e == d) (x ∷ xs))
any_cases p d x xs true e h = rw e (by_same (eqb_tells x d))
  where
    by_same : ((x == d) ≡ true) × (x ≡ d) ⊎ ((x == d) ≡ false) × (x ≢ d) → ((x == d) || list_any (λ e. e == d) (filter p xs)) ≡ (p d && ((x == d) || list_any (λ e. e == d) xs))
    by_same (inl s) = let passes : p d ≡ true = ap p (sym s.1) ∙ e in rw (s.0, passes)
    by_same (inr s) = rw s.0 h
any_cases p d x xs false e h = rw e (by_same (eqb_tells x d))
  where
    by_same : ((x == d) ≡ true) × (x ≡ d) ⊎ ((x == d) ≡ false) × (x ≢ d) → list_any (λ e. e == d) (filter p xs) ≡ (p d && ((x == d) || list_any (λ e. e == d) xs))
    by_same (inl s) = let fails : p d ≡ false = ap p (sym s.1) ∙ e in h ∙ rw fails
    by_same (inr s) = rw s.0 h

any_filter : (p : ℕ → Bool) (d : ℕ) (xs : List ℕ) → list_any (λ e. e == d) (filter p xs) ≡ (p d && list_any (λ e. e == d) xs)
any_filter p d [] = sym (and-false (p d))
any_filter p d (x ∷ xs) = any_cases p d x xs (p x) refl (any_filter p d xs)

range_cases : (n low d : ℕ) → ((low == d) ≡ true) × (low ≡ d) ⊎ ((low == d) ≡ false) × (low ≢ d) → (low ≢ d → list_any (λ e. e == d) (range_with_len (low + 1) n) ≡ true)
    → ((low == d) || list_any (λ e. e == d) (range_with_len (low + 1) n)) ≡ true
range_cases n low d (inl s) later = rw s.0
range_cases n low d (inr s) later = rw s.0 (later s.1)

any_range : (n low d : ℕ) → low ≤ d → d < low + n → list_any (λ e. e == d) (range_with_len low n) ≡ true
any_range zero low d h k = absurd (omega arith)
any_range (suc n) low d h k = range_cases n low d (eqb_tells low d) (λ other. any_range n (low + 1) d (omega arith) (omega arith))

-- the live documents, where there is a file of them and where there is none
abbrev pub live_docs : Option (List Bool) → ℕ → List ℕ
live_docs None docs = range_with_len 0 docs
live_docs (Some bits) docs = places_of bits

live_is : (live : Option (List Bool)) (docs : ℕ) (r : Result (List ℕ) BadFile) → GivesLive (Ok live) docs r → r ≡ Ok (live_docs live docs)
live_is None docs r h = h
live_is (Some bits) docs r h = h

alive_is : (live : Option (List Bool)) (docs d : ℕ) → d < docs → ForSome live (λ l. length l ≡ docs) → list_any (λ e. e == d) (live_docs live docs) ≡ is_alive live d
alive_is None docs d h n = any_range docs 0 d (omega arith) (omega arith)
alive_is (Some bits) docs d h n =
    let size = n bits refl in
    any_filter (λ i. slice_index_or bits i false) d (range_with_len 0 (length bits))
    ∙ ap (λ b. slice_index_or bits d false && b) (any_range (length bits) 0 d (omega arith) (omega arith))
    ∙ and-true (slice_index_or bits d false)

module _ (bytes : ℕ → List ℕ) (file : ℕ) (s : Segment) (d : ℕ) (documents : List (List StoredField)) (live : Option (List Bool))
    (below : d < s.docs) (read : in_file file (stored (bytes file) s.docs) ≡ Ok documents) (alive : GivesLive (Ok live) s.docs (live_in bytes s.docs s.live)) (size : ForSome live (λ l. length l ≡ s.docs)) where
  fetched : document bytes file s d ≡ Ok (if is_alive live d then slice_get documents d else None)
  fetched =
      ap (λ b. if b then (in_file file (stored (bytes file) s.docs) >>= (λ documents. live_in bytes s.docs s.live >>= (λ docs. Ok (fields_of documents d docs)))) else Ok None) (lt-ltb d s.docs below)
      ∙ ap (λ r. r >>= (λ documents. live_in bytes s.docs s.live >>= (λ docs. Ok (fields_of documents d docs)))) read
      ∙ ap (λ r. r >>= (λ docs. Ok (fields_of documents d docs))) (live_is live s.docs _ alive)
      ∙ ap (λ b. Ok (if b then slice_get documents d else None)) (alive_is live s.docs d below size)

  pub no_fields : is_alive live d ≡ false → document bytes file s d ≡ Ok None
  no_fields h = fetched ∙ ap (λ b. Ok (if b then slice_get documents d else None)) h

  pub some_fields : (fields : List StoredField) → is_alive live d ≡ true → slice_get documents d ≡ Some fields → document bytes file s d ≡ Ok (Some fields)
  some_fields fields h at = fetched ∙ ap (λ b. Ok (if b then slice_get documents d else None)) h ∙ ap Ok at

-- the fields that an index gives are those of the text
pub has_document : (f n m d : ℕ) (text whole : List ℕ) (documents : List (List StoredField)) (fields : List StoredField) → m ≡ n → text ≡ whole
    → in_file f (stored whole n) ≡ Ok documents → HasDocument (stored text m) d fields → slice_get documents d ≡ Some fields
has_document f n m d text whole documents fields same e read h =
    let is : stored text m ≡ Ok documents = ap (stored text) same ∙ ap (λ t. stored t n) e ∙ was_read f (stored whole n) documents read in
    rw is at h

was_said : {A : Type 0} (r : Result A ℕ) → IsSaid r → (x : A) × (r ≡ Ok x)
was_said (Ok x) h = (x, refl)
was_said (Err at) h = absurd h

pub opened : (f n : ℕ) (text whole : List ℕ) → text ≡ whole → IsSaid (stored text n) → (documents : List (List StoredField)) × (in_file f (stored whole n) ≡ Ok documents)
opened f n text whole e h = let said = was_said (stored text n) h in (said.0, ap (λ t. in_file f (stored t n)) (sym e) ∙ ap (in_file f) said.1)
