-- What the files of a segment say.
use Rattle.std.proofs.Common.{◌≡◌, ℕ, ◌<◌, Bool, List, length, filter, sym, refl, ap, ◌∙◌, arith, Option, Some, None, Ok, Err}
use Rattle.std.specs.Prelude.{Result, IsTrue, IfSome, MatchOption, ◌&&◌}
use Rattle.std.specs.Option.{ForSome}
use Rattle.std.proofs.lemmas.List.{take_all}
use Rattle.directory_input.specs.Files.{FilesView}
use Rattle.directory_input.specs.Windows.{Window, FitsFile, window_bytes}
use Rattle.text_lines.specs.declared.errors.TextError.{TextError}
use Rattle.text_lines.specs.declared.errors.TextError.TheVariants.{Bad, Bytes}
use Rattle.doc_bits.specs.Places.{zip_with, places_of}
use Rattle.mount_manifest.specs.declared.record.Segment.{Segment}
use Rattle.simpletext_postings.specs.Postings.{postings}
use Rattle.simpletext_postings.specs.Terms.{Opens}
use Rattle.simpletext_postings.specs.declared.rows.Row.{Row}
use Rattle.query_lang.specs.Trees.{Tree}
use Rattle.shard_search.specs.Matches.{matches}
use Rattle.shard_search.specs.Hits.{in_file, live_in, segment_docs, has_in, ◌>>=◌}
use Rattle.shard_search.specs.Answers.{RefusesBy, NamesFile, refused_in}
use Rattle.shard_search.specs.Answers as answers
use Rattle.shard_search.specs.Sets.{each_of}
use Rattle.shard_search.specs.declared.error.SearchError.{SearchError}
use Rattle.shard_search.specs.declared.error.SearchError.TheVariants as refusal
use Rattle.shard_search.proofs.SetLemmas.{places_each, places_and}
use Rattle.doc_bits.proofs.Lists.{length-zip_with}

-- the refusal of a text names its file
pub names : (n f : ℕ) (e : TextError) (x : SearchError) → x ≡ refused_in f e → f < n → NamesFile n x
names n f (Bad at) x is below = rw is below
names n f (Bytes b) x is below = rw is tt

-- the window of a whole file
pub whole_bytes : (files : FilesView) (w : Window) (file : ℕ) → FitsFile files w → w ≡ record { file = file; start = 0; size = files.lengths file; position = 0 }
    → IsTrue files.tells → window_bytes files.bytes w ≡ files.bytes file
whole_bytes files w file fits is t =
    let named : w.file ≡ file = ap (λ (v : Window). v.file) is in
    let whole : length (files.bytes file) ≡ files.lengths file = ap (λ f. length (files.bytes f)) (sym named) ∙ fits.whole t ∙ ap files.lengths named in
    ap (window_bytes files.bytes) is ∙ take_all (files.lengths file) (files.bytes file) (omega arith)

pub opened : (f n : ℕ) (text whole : List ℕ) → text ≡ whole → ((rows : List Row) × (postings text n ≡ Ok rows)) → (rows : List Row) × (in_file f (postings whole n) ≡ Ok rows)
opened f n text whole e o = (o.0, ap (λ t. in_file f (postings t n)) (sym e) ∙ ap (in_file f) o.1)

pub not_opened : (T : Type 0) (f n : ℕ) (e : TextError) (text whole : List ℕ) → text ≡ whole → Opens {T = T} (Err e) (postings text n) → RefusesBy (refused_in f e) (in_file f (postings whole n))
not_opened T f n (Bad at) text whole e h = ap (λ t. in_file f (postings t n)) (sym e) ∙ ap (in_file f) h
not_opened T f n (Bytes b) text whole e h = tt

pub was_read : {A : Type 0} (f : ℕ) (r : Result A ℕ) (x : A) → in_file f r ≡ Ok x → r ≡ Ok x
was_read f (Ok y) x h = let e : y ≡ x = cc in ap Ok e
was_read f (Err at) x h = absurd (cc)

-- the rows of the segment's postings are those of the dictionary
pub are_rows : (f n m : ℕ) (text whole : List ℕ) (rows : List Row) → m ≡ n → text ≡ whole → in_file f (postings whole n) ≡ Ok rows → postings text m ≡ Ok rows
are_rows f n m text whole rows same e h = ap (postings text) same ∙ ap (λ t. postings t n) e ∙ was_read f (postings whole n) rows h

-- the documents of a segment that match and are live
pub found : (bytes : ℕ → List ℕ) (q : Tree) (s : Segment) (rows : List Row) (live : Option (List Bool)) (bits result : List Bool)
    → in_file s.postings (postings (bytes s.postings) s.docs) ≡ Ok rows
    → answers.GivesLive (Ok live) s.docs (live_in bytes s.docs s.live) → ForSome live (λ l. length l ≡ s.docs)
    → bits ≡ each_of (matches (has_in rows) q) s.docs → MatchOption live (result ≡ bits) (λ l. result ≡ zip_with ◌&&◌ bits l)
    → segment_docs bytes q s ≡ Ok (places_of result)
found bytes q s rows None bits result e1 e2 n is made =
    ap (λ r. r >>= (λ rows. live_in bytes s.docs s.live >>= (λ docs. Ok (filter (matches (has_in rows) q) docs)))) e1
    ∙ ap (λ r. r >>= (λ docs. Ok (filter (matches (has_in rows) q) docs))) e2
    ∙ ap Ok (sym (ap places_of (made ∙ is) ∙ places_each (matches (has_in rows) q) s.docs))
found bytes q s rows (Some l) bits result e1 e2 n is made =
    ap (λ r. r >>= (λ rows. live_in bytes s.docs s.live >>= (λ docs. Ok (filter (matches (has_in rows) q) docs)))) e1
    ∙ ap (λ r. r >>= (λ docs. Ok (filter (matches (has_in rows) q) docs))) e2
    ∙ ap Ok (sym (ap places_of (made ∙ ap (λ b. zip_with ◌&&◌ b l) is) ∙ places_and (matches (has_in rows) q) l s.docs (n l refl)))

-- the rows were read, and then the file of live documents refused
pub bad_live : (bytes : ℕ → List ℕ) (q : Tree) (s : Segment) (rows : List Row) (e : SearchError) → in_file s.postings (postings (bytes s.postings) s.docs) ≡ Ok rows
    → RefusesBy e (live_in bytes s.docs s.live) → RefusesBy e (segment_docs bytes q s)
bad_live bytes q s rows (refusal.Bad f at) e1 e2 =
    ap (λ r. r >>= (λ rows. live_in bytes s.docs s.live >>= (λ docs. Ok (filter (matches (has_in rows) q) docs)))) e1
    ∙ ap (λ r. r >>= (λ docs. Ok (filter (matches (has_in rows) q) docs))) e2
bad_live bytes q s rows (refusal.Bytes b) e1 e2 = tt

pub length_kept : (live : Option (List Bool)) (bits result : List Bool) (docs : ℕ) → length bits ≡ docs → ForSome live (λ l. length l ≡ docs)
    → MatchOption live (result ≡ bits) (λ l. result ≡ zip_with ◌&&◌ bits l) → length result ≡ docs
length_kept None bits result docs n m made = ap length made ∙ n
length_kept (Some l) bits result docs n m made = ap length made ∙ length-zip_with ◌&&◌ bits l (n ∙ sym (m l refl)) ∙ n

-- what holds of a file that is there
pub at_some : (o : Option ℕ) (n : ℕ) → IfSome o (λ f. f < n) → ForSome o (λ f. f < n)
at_some None n h = λ f e. absurd (cc)
at_some (Some k) n h = λ f e. let same : k ≡ f = cc in omega (arith, h, same)
