-- A whole call, by what it did with its first source.
use Rattle.std.proofs.Common.{◌≡◌, ℕ, ◌<◌, ◌≤◌, max, List, [], ◌∷◌, length, map, get_or, set, Bool, true, false, refl, ap, subst, ◌∙◌, arith}
use Rattle.std.specs.Prelude.{Option, Some, None, option_map}
use Rattle.run_setup.specs.Asked.{view_of}
use Rattle.run_setup.specs.declared.asked.Asked.{Asked}
use Rattle.std.proofs.lemmas.List.{length-map}
use Rattle.cache_outside.specs.Listing.{Listing}
use Rattle.cache_outside.specs.Sources.{SourceView}
use Rattle.cache_outside.specs.Texts.{TextView}
use Rattle.cache_outside.specs.Frames.{MakerView}
use Rattle.cache_outside.specs.Sinks.{SinkView}
use Rattle.cache_outside.specs.Clocks.{ClockView}
use Rattle.run_setup.specs.declared.settings.RunSettings.{RunSettings}
use Rattle.run_setup.specs.declared.make_settings.MakeSettings.{MakeSettings}
use Rattle.run_setup.specs.Words.{Command, Term, term, run, make, command, asks}
use Rattle.mount_tool.specs.Replies.{usage_text}
use Rattle.mount_tool.specs.Runs.{IsNoted, IsTermRun}
use Rattle.mount_tool.specs.Makes.{IsMakeRun}
use Rattle.mount_tool.specs.Calls.{World, world, IsScriptRun, CallEnds, IsCall, is_refused, refuses, taken_on, readers, MakeIsWhole}
use Rattle.mount_tool.proofs.Usage.{only_refused}
use Rattle.mount_tool.proofs.Makes.{run_whole}
use Rattle.mount_tool.proofs.Accepted.{term_taken, run_taken, make_taken, shared_taken, one_worker, two_workers}

-- `usage` was written
pub refused_call : (tells : Bool) (blobs : Listing) (words : List (List ℕ)) (sources : List SourceView) (text : TextView) (m : MakerView) (k l : SinkView) (c : ClockView) (status : ℕ)
    → taken_on (length sources) (command words) ≡ None → IsNoted k l usage_text 2 status
    → IsCall tells blobs words (world text m k c sources) (world text m l c sources) status
refused_call tells blobs words sources text m k l c status is noted =
    rw is (noted, record { text = refl; maker = refl; clock = refl; sources = refl })

-- a reply of `term` was written, and the first source read
term_here : (tells : Bool) (blobs : Listing) (words : List (List ℕ)) (a b : SourceView) (rest : List SourceView) (text : TextView) (m : MakerView) (k l : SinkView) (c : ClockView) (t : Term) (status : ℕ)
    → command words ≡ Some (term t) → IsTermRun tells blobs t a.faults b.faults k l status
    → IsCall tells blobs words (world text m k c (a ∷ rest)) (world text m l c (b ∷ rest)) status
term_here tells blobs words a b rest text m k l c t status is h =
    rw (term_taken (length (a ∷ rest)) (command words) t is (omega arith)) (h, refl, refl, refl)

run_here : (tells : Bool) (blobs : Listing) (words : List (List ℕ)) (a b : SourceView) (rest : List SourceView) (text now : TextView) (m n : MakerView) (k l : SinkView) (c d : ClockView) (s : RunSettings) (status : ℕ)
    → command words ≡ Some (run s) → asks (command words) ≡ false
    → IsScriptRun tells blobs s (world text m k c (a ∷ rest)) (world now n l d (b ∷ rest)) status
    → IsCall tells blobs words (world text m k c (a ∷ rest)) (world now n l d (b ∷ rest)) status
run_here tells blobs words a b rest text now m n k l c d s status is alone h =
    rw (run_taken (length (a ∷ rest)) (command words) s is alone (omega arith)) h

pub term_call : {S : Type 0} (view : S → SourceView) (sources : List S) (a b : S) (tells : Bool) (blobs : Listing) (words : List (List ℕ)) (text : TextView) (m : MakerView) (k l : SinkView) (c : ClockView) (t : Term) (status : ℕ)
    → 0 < length sources → a ≡ get_or sources 0 a
    → command words ≡ Some (term t) → IsTermRun tells blobs t (view a).faults (view b).faults k l status
    → IsCall tells blobs words (world text m k c (map view sources)) (world text m l c (map view (set sources 0 b))) status
term_call view [] a b tells blobs words text m k l c t status some is asked h = absurd (omega (arith, some))
term_call view (x ∷ xs) a b tells blobs words text m k l c t status some is asked h =
    term_here tells blobs words (view x) (view b) (map view xs) text m k l c t status asked (subst (λ y. IsTermRun tells blobs t (view y).faults (view b).faults k l status) is h)

pub run_call : {S : Type 0} (view : S → SourceView) (sources : List S) (a b : S) (tells : Bool) (blobs : Listing) (words : List (List ℕ)) (text now : TextView) (m n : MakerView) (k l : SinkView) (c d : ClockView) (s : RunSettings) (status : ℕ)
    → 0 < length sources → a ≡ get_or sources 0 a
    → command words ≡ Some (run s) → asks (command words) ≡ false
    → ((rest : List SourceView) → IsScriptRun tells blobs s (world text m k c (view a ∷ rest)) (world now n l d (view b ∷ rest)) status)
    → IsCall tells blobs words (world text m k c (map view sources)) (world now n l d (map view (set sources 0 b))) status
run_call view [] a b tells blobs words text now m n k l c d s status some is asked alone h = absurd (omega (arith, some))
run_call view (x ∷ xs) a b tells blobs words text now m n k l c d s status some is asked alone h =
    run_here tells blobs words (view x) (view b) (map view xs) text now m n k l c d s status asked alone
    (subst (λ y. IsScriptRun tells blobs s (world text m k c (view y ∷ map view xs)) (world now n l d (view b ∷ map view xs)) status) is (h (map view xs)))

-- an archive was made, and nothing of the sources was asked
pub make_call : (sources : List SourceView) (tells : Bool) (blobs : Listing) (words : List (List ℕ)) (text : TextView) (m n : MakerView) (k l : SinkView) (c d : ClockView) (s : MakeSettings) (status : ℕ)
    → command words ≡ Some (make s) → IsMakeRun s m.faults n.faults k l c d status
    → IsCall tells blobs words (world text m k c sources) (world text n l d sources) status
make_call sources tells blobs words text m n k l c d s status is h =
    rw (make_taken (length sources) (command words) s is) (h, refl, refl)

-- the first source is still the same
pub same_identity : {S : Type 0} (view : S → SourceView) (sources : List S) (a b : S) → 0 < length sources → a ≡ get_or sources 0 a → (view b).identity ≡ (view a).identity
    → map (λ s. (view s).identity) (set sources 0 b) ≡ map (λ s. (view s).identity) sources
same_identity view [] a b some is same = absurd (omega (arith, some))
same_identity view (x ∷ xs) a b some is same = ap (λ n. n ∷ map (λ s. (view s).identity) xs) (same ∙ ap (λ y. (view y).identity) is)

-- status 2 comes only where the words are refused
pub usage_of : {S : Type 0} (view : S → SourceView) (sources : List S) (tells : Bool) (blobs : Listing) (words : List (List ℕ)) (text : TextView) (m : MakerView) (k : SinkView) (c : ClockView) (y : World) (status : ℕ)
    → IsCall tells blobs words (world text m k c (map view sources)) y status → status ≡ 2 → is_refused words (length sources) ≡ true
usage_of view sources tells blobs words text m k c y status h two =
    subst (λ n. refuses n (command words) ≡ true) (length-map sources view)
    (only_refused tells blobs (length (map view sources)) (command words) (world text m k c (map view sources)) y status h two)

-- words of `make`, where nothing failed
pub make_is_whole : MakeIsWhole
make_is_whole tells blobs words m x y status is call frames sink =
    let h : CallEnds tells blobs (Some (make m)) x y status = subst (λ c. CallEnds tells blobs c x y status) is call in
    run_whole m _ _ _ _ _ _ status h.0 frames sink

-- a script was run by several workers
pub shared_call : {S : Type 0} (view : S → SourceView) (olds news : List S) (tells : Bool) (blobs : Listing) (words : List (List ℕ)) (text now : TextView) (m n : MakerView) (k l : SinkView) (c d : ClockView) (s : RunSettings) (status : ℕ)
    → command words ≡ Some (run s) → s.workers ≤ length olds → IsScriptRun tells blobs s (world text m k c (map view olds)) (world now n l d (map view news)) status
    → IsCall tells blobs words (world text m k c (map view olds)) (world now n l d (map view news)) status
shared_call view olds news tells blobs words text now m n k l c d s status is enough h =
    rw (shared_taken (length (map view olds)) (command words) s is (omega (arith, enough, length-map olds view))) h

-- who reads
pub readers_alone : (c : Option Command) → asks c ≡ false → readers c ≡ 1
readers_alone None h = refl
readers_alone (Some (term t)) h = refl
readers_alone (Some (make m)) h = refl
readers_alone (Some (run s)) h = let few = one_worker (Some (run s)) s refl h in omega (arith, few)

pub readers_shared : (c : Option Command) (s : RunSettings) → c ≡ Some (run s) → asks c ≡ true → readers c ≡ s.workers
readers_shared c s is h = let many = two_workers c s is h in ap readers is ∙ most s.workers many
  where
    most : (n : ℕ) → 1 < n → max 1 n ≡ n
    most n h = omega (arith, h)

-- an archive that is made reads no source that was handed in
pub readers_make : (c : Option Command) (m : MakeSettings) → c ≡ Some (make m) → readers c ≡ 1
readers_make c m is = ap readers is

-- words that ask for several workers are of a script or of what is made
pub asked_none : (o : Option Asked) → o ≡ None → asks (option_map view_of o) ≡ true → ⊥
asked_none o is h = absurd (cc)
