-- One part by its entry, where the state of the cache is told and one actor works alone.
use Rattle.std.proofs.Common.{arith, ◌≡◌, ◌≢◌, ◌<◌, ◌≤◌, ◌+◌, ◌-◌, ◌*◌, ◌/◌, ◌∙◌, ℕ, List, [], ◌∷◌, Bool, true, false, Option, Some, None, Result, Ok, Err, map, refl, inl, ap, sym, subst, length}
use Rattle.std.specs.Prelude.{IsTrue, IfSome, OnOk, IsErrOf, option_map, min}
use Rattle.std.proofs.Math.Nat.{div-mul-le_self, le_refl}
use Rattle.region_ranges.specs.declared.ranges.ByteRange.{ByteRange}
use Rattle.region_ranges.specs.declared.keys.Config.{Config}
use Rattle.byte_text.specs.Counts.{Rose}
use Rattle.directory_input.specs.declared.files.BytesError.{BytesError}
use Rattle.directory_input.specs.declared.files.BytesError.TheVariants as bytes
use Rattle.blob_parts.specs.Content.{slice_of}
use Rattle.blob_parts.specs.Takes.{Took, Takes}
use Rattle.cache_door.specs.declared.answers.Want.{Want}
use Rattle.cache_door.specs.declared.answers.Entered.{Entered}
use Rattle.cache_door.specs.declared.answers.Entered.TheVariants.{Held, NoRoom, Gone}
use Rattle.cache_door.specs.declared.answers.Glance.TheVariants as glance
use Rattle.cache_reader.specs.Stored.{gap_stored}
use Rattle.cache_door.specs.Machine.{State, enter, hold_at, look, leave, is_gone}
use Rattle.cache_door.specs.Good.{Good}
use Rattle.cache_door.specs.Doors.{DoorView, DoorLater, Answers, Becomes, entry, entry_answer, nothing, Agrees, IsWant, HasLength, range_start, range_end}
use Rattle.cache_door.specs.Takes.{parts, want_of}
use Rattle.directory_input.specs.Causes.{IsCaused}
use Rattle.cache_reader.specs.declared.part.Last.{Last}
use Rattle.cache_reader.specs.declared.report.Report.{Report}
use Rattle.cache_reader.specs.Reports.{copied_bytes, direct_bytes, Counted}
use Rattle.cache_reader.specs.Parts.{ReadSetting, bytes_of, places_of}
use Rattle.cache_reader.specs.Going.{Moment, moment, Goes, is_memory}
use Rattle.cache_outside.specs.Sources.{SourceView}
use Rattle.cache_reader.specs.Alone.{Outcome, part_outcome, outcome_over, HasOutcome, Calmly, HeldExactly, Looked, LastFits, Fits, in_file, FilePart, entry_for, ByEntries}
use Rattle.cache_reader.proofs.Joins.{rose_then, took_none, grew_none}
use Rattle.cache_reader.proofs.Answered.{refused_by}
use Rattle.cache_reader.proofs.Gaps.{entered_alone}
use Rattle.cache_reader.proofs.Glances.{glanced_part}
use Rattle.cache_reader.proofs.States.{told_none}
use Rattle.cache_reader.proofs.Stores.{told_of}
use Rattle.cache_reader.specs.Reader.{files_seen}
use Rattle.cache_reader.proofs.Cuts.{cut_at, next_cut}
use Rattle.cache_reader.proofs.Runs.{ReadTo, just_direct, just_held, part_as, part_base, part_entry, read_to_gone, read_to_refused}

-- what is known of the state before an entry
pub record Known (tells : Bool) (files : ℕ → ℕ → List ℕ) (c : ReadSetting) (a file : ℕ) (p : ByteRange) (want : Want) (base : ℕ) (s : State) : Type 0 where
  pub good : Good tells files s
  pub actor : a < length s.holds
  pub none : hold_at s a ≡ None
  pub config : s.config ≡ c.config
  pub wants : want ≡ want_of s.config.region c.table.number file (length (bytes_of c file)) p
  pub place : base ≡ part_base p s

pub known_of : {tells : Bool} {files : ℕ → ℕ → List ℕ} (c : ReadSetting) (file size : ℕ) (p : ByteRange) (want : Want) (d : DoorView) (s : State)
    → IfSome d.state (Agrees tells files d) → d.state ≡ Some s → d.hold ≡ nothing → d.config ≡ c.config → want ≡ want_of c.config.region c.table.number file size p → length (bytes_of c file) ≡ size
    → Known tells files c d.actor file p want (p.start - want.sub.start) s
known_of {tells = tells} {files = files} c file size p want d s rest told free own wants long =
    let is : Agrees tells files d s = told_of (Agrees tells files d) d.state s rest told in
    let same : s.config ≡ c.config = is.config ∙ own in
    let low : p.start / c.config.region * c.config.region ≤ p.start = div-mul-le_self p.start c.config.region in
    let start : want.sub.start ≡ p.start - p.start / c.config.region * c.config.region = ap (λ (w : Want). w.sub.start) wants in
    let base : p.start - want.sub.start ≡ p.start / c.config.region * c.config.region = omega (arith, low, start) in
    record {
      good = is.good;
      actor = is.actor;
      none = told_none (hold_at s d.actor) (sym free ∙ is.hold);
      config = same;
      wants = wants ∙ ap (λ (k : Config). want_of k.region c.table.number file size p) (sym same) ∙ ap (λ n. want_of s.config.region c.table.number file n p) (sym long);
      place = base ∙ ap (λ (k : Config). p.start / k.region * k.region) (sym same);
    }

abbrev pair : Entered → State → Entered × State
pair e s = (e, s)

pub entry_as : (c : ReadSetting) (a file : ℕ) (p : ByteRange) (want : Want) (s : State) (e : Entered) → want ≡ want_of s.config.region c.table.number file (length (bytes_of c file)) p → e ≡ (enter a c.mount want c.now s).0
    → part_entry c a file p s ≡ (e, (enter a c.mount want c.now s).1)
entry_as c a file p want s e same is =
    ap (λ (w : Want). enter a c.mount w c.now s) (sym same) ∙ ap (λ (f : Entered). pair f (enter a c.mount want c.now s).1) (sym is)

-- an answer of the entry `e`, and the state behind it, where it is told
pub record EntryAnswers (c : ReadSetting) (a : ℕ) (want : Want) (e : Entered) (x y : Moment) : Type 0 where
  pub answer : (s : State) → x.door.state ≡ Some s → e ≡ (enter a c.mount want c.now s).0
  pub state : y.door.state ≡ option_map (λ s. (enter a c.mount want c.now s).1) x.door.state
  pub reads : y.source.reads ≡ x.source.reads
  pub faults : x.source.faults ≤ y.source.faults
  pub frame_faults : x.door.frame_faults ≤ y.door.frame_faults

-- by the door's own clauses
pub entry_answers : (c : ReadSetting) (s : SourceView) (d f : DoorView) (want : Want) (e : Entered) → Answers d (entry_answer c.mount want c.now) e → Becomes d f (entry c.mount want c.now) → DoorLater d f
    → EntryAnswers c d.actor want e (moment s d) (moment s f)
entry_answers c s d f want e answer state later = record {
  answer = λ t is. told_of (λ (u : State). e ≡ (enter d.actor c.mount want c.now u).0) d.state t answer is;
  state = state;
  reads = refl;
  faults = le_refl s.faults;
  frame_faults = later.faults;
}

state_then : (c : ReadSetting) (a : ℕ) (want : Want) (e : Entered) (x y : Moment) (s : State) → EntryAnswers c a want e x y → x.door.state ≡ Some s → y.door.state ≡ Some (enter a c.mount want c.now s).1
state_then c a want e x y s h is = h.state ∙ ap (option_map (λ s. (enter a c.mount want c.now s).1)) is

-- a hold
pub exactly_held : {tells : Bool} {files : ℕ → ℕ → List ℕ} (c : ReadSetting) (a file : ℕ) (p : ByteRange) (want : Want) (base r : ℕ) (gap : Option ByteRange) (out_of_memory : Bool) (q now : Report) (x y z : Moment)
    → (IsTrue c.tells → (s : State) → x.door.state ≡ Some s → Known tells files c a file p want base s) → EntryAnswers c a want (Held r gap) x y → y.source.faults ≤ z.source.faults → y.door.frame_faults ≤ z.door.frame_faults
    → HeldExactly c a file base gap out_of_memory q now y z → Calmly c (part_outcome c a file p) out_of_memory q now x z
exactly_held c a file p want base r gap out_of_memory q now x y z known entry up on held told enough calm still s is one =
    let k = known told s is in
    let e = entry.answer s is in
    let t = (enter a c.mount want c.now s).1 in
    let alone = entered_alone s k.good a k.actor want c.now r gap c.mount one e in
    let h = held told enough (λ rose. calm (rose_then x.source.faults y.source.faults z.source.faults entry.faults rose)) (λ rose. still (rose_then x.door.frame_faults y.door.frame_faults z.door.frame_faults entry.frame_faults rose))
    t (state_then c a want (Held r gap) x y s entry is) alone.0 alone.1 in
    let whole : ℕ → List (ℕ × ℕ) = λ b. slice_of (places_of c file) (b + range_start gap) (range_end gap - range_start gap) in
    just_held c a file p s t r gap q now x z (entry_as c a file p want s (Held r gap) k.wants e)
    (subst (λ b. Took x.source.reads z.source.reads (whole b)) k.place (subst (λ b. Took b z.source.reads (whole base)) entry.reads h.places))
    h.fetched h.direct (subst (λ b. let u = gap_stored c a file b gap t in z.door.state ≡ Some (leave a (hold_at u a) u)) k.place h.state)

-- no room
pub exactly_passed : {tells : Bool} {files : ℕ → ℕ → List ℕ} {T : Type 0} (r : Result T BytesError) (c : ReadSetting) (a file : ℕ) (p : ByteRange) (want : Want) (base : ℕ) (q now : Report) (x y z : Moment)
    → (IsTrue c.tells → (s : State) → x.door.state ≡ Some s → Known tells files c a file p want base s) → EntryAnswers c a want NoRoom x y → z.door.state ≡ y.door.state
    → (IsErrOf r bytes.Fault → Rose y.source.faults z.source.faults) → ((m : ℕ) → r ≢ Err (bytes.Gone m)) → OnOk r (Counted q now (direct_bytes (p.end - p.start)))
    → (IsTrue c.tells → Takes y.source.reads z.source.reads (slice_of (places_of c file) p.start (p.end - p.start)) r) → Calmly c (part_outcome c a file p) (is_memory r) q now x z
exactly_passed (Ok v) c a file p want base q now x y z known entry same cause present count took told enough calm still s is one =
    let k = known told s is in
    let t = (enter a c.mount want c.now s).1 in
    just_direct c a file p s t q now x z (entry_as c a file p want s NoRoom k.wants (entry.answer s is))
    (subst (λ b. Took b z.source.reads (slice_of (places_of c file) p.start (p.end - p.start))) entry.reads (took told)) count.fetched count.direct (same ∙ state_then c a want NoRoom x y s entry is)
exactly_passed (Err e) c a file p want base q now x y z known entry same cause present count took told enough calm still s is one =
    absurd (calm (rose_then x.source.faults y.source.faults z.source.faults entry.faults (refused_by (Unit {0}) e _ (λ f. cause (ap Err f)) (λ m f. present m (ap Err f)) enough)))

-- gone
pub exactly_entered_gone : {tells : Bool} {files : ℕ → ℕ → List ℕ} (c : ReadSetting) (a file : ℕ) (p : ByteRange) (want : Want) (base : ℕ) (out_of_memory : Bool) (q : Report) (x y : Moment)
    → (IsTrue c.tells → (s : State) → x.door.state ≡ Some s → Known tells files c a file p want base s) → EntryAnswers c a want Gone x y → Calmly c (part_outcome c a file p) out_of_memory q q x y
exactly_entered_gone c a file p want base out_of_memory q x y known entry told enough calm still s is one =
    let k = known told s is in
    let t = (enter a c.mount want c.now s).1 in
    let P : Outcome → Type 0 = λ w. HasOutcome w q q x y in
    subst P (sym (part_as c a file p s Gone t (entry_as c a file p want s Gone k.wants (entry.answer s is)))) (record {
      places = subst (λ b. Took x.source.reads b []) (sym entry.reads) (took_none x.source.reads);
      fetched = grew_none q.fetched;
      direct = grew_none q.direct;
      state = state_then c a want Gone x y s entry is;
    })

-- the same behind a call of the door that left all as it was
pub entries_after : (c : ReadSetting) (a : ℕ) (ps : List FilePart) (out_of_memory : Bool) (n : Report) (q r : Report) (x y z : Moment) → Goes c n x y → y.source.reads ≡ x.source.reads → y.door.state ≡ x.door.state → ByEntries c a ps out_of_memory q r y z → ByEntries c a ps out_of_memory q r x z
entries_after c a ps out_of_memory n q r x y z goes taken state h told enough calm still s is one =
    let k = h told enough (λ rose. calm (rose_then x.source.faults y.source.faults z.source.faults goes.faults rose)) (λ rose. still (rose_then x.door.frame_faults y.door.frame_faults z.door.frame_faults goes.frame_faults rose)) s (state ∙ is) one in
    let j = k.outcome in record {
      entered = k.entered;
      are = k.are;
      outcome = record { places = subst (λ b. Took b z.source.reads (outcome_over (entry_for c a) k.entered s).places) taken j.places; fetched = j.fetched; direct = j.direct; state = j.state };
    }

-- a glance that found what is wanted
pub entries_glanced : {tells : Bool} {files : ℕ → ℕ → List ℕ} (c : ReadSetting) (a file : ℕ) (p : ByteRange) (want : Want) (base size : ℕ) (last : Option Last) (config : Config) (out_of_memory : Bool) (q r : Report) (x y : Moment)
    → (IsTrue c.tells → IsTrue tells) → (IsTrue c.tells → (s : State) → x.door.state ≡ Some s → Known tells files c a file p want base s)
    → ((s : State) → x.door.state ≡ Some s → Looked last want s) → LastFits c.mount c.now last x.door.state → config ≡ c.config → IsWant config want → (IsTrue c.tells → HasLength files config want)
    → Counted q r (copied_bytes size) → y.source.reads ≡ x.source.reads → y.door.state ≡ x.door.state → ByEntries c a (in_file file p ∷ []) out_of_memory q r x y
entries_glanced {files = files} c a file p want base size last config out_of_memory q r x y archive known looked fits own is_want long count taken state told enough calm still s is one =
    let k = known told s is in
    let l = looked s is in
    let same : config ≡ s.config = own ∙ sym k.config in
    let fit : Fits c.mount c.now l.0 s = subst (λ o. LastFits c.mount c.now o (Some s)) l.1 (subst (λ o. LastFits c.mount c.now last o) is fits) in
    let found = subst (λ w. look l.0.region w s ≡ glance.Copied) k.wants l.3 in
    let wants = subst (λ w. IsWant s.config w) k.wants (subst (λ g. IsWant g want) same is_want) in
    let whole = subst (λ w. HasLength files s.config w) k.wants (subst (λ g. HasLength files g want) same (long told)) in
    record {
      entered = [];
      are = inl (
        record {
          region = l.0.region;
          found = found;
          idle = λ delta. glanced_part s k.good (archive told) a p l.0 one k.actor k.none delta c file fit (l.2 ∙ ap (λ (w : Want). w.key) k.wants) wants whole found;
        },
        refl,
      );
      outcome = record {
        places = subst (λ b. Took x.source.reads b []) (sym taken) (took_none x.source.reads);
        fetched = count.fetched;
        direct = count.direct;
        state = state ∙ is;
      };
    }

-- want of memory
entries_lacked : (c : ReadSetting) (a : ℕ) (ps : List FilePart) (q r : Report) (x y : Moment) → ByEntries c a ps true q r x y
entries_lacked c a ps q r x y told enough calm still s is one = absurd (cc)

-- a part that was refused
pub entries_refused : (T : Type 0) (e : BytesError) (c : ReadSetting) (a file range at upto end : ℕ) (p : ByteRange) (m n q r s : Report) (x y z : Moment)
    → 0 < range → upto < end → p.start ≡ upto → p.end ≡ min end (next_cut upto range) → Goes c m x y → Goes c n y z
    → IsCaused (files_seen c y false) (files_seen c z false) (Some e) → (IsTrue (z.door.seen_gone c.mount) → (t : State) → z.door.state ≡ Some t → is_gone t c.mount ≡ true)
    → ByEntries c a (in_file file p ∷ []) (is_memory {T = T} (Err e)) r s y z → ReadTo c a file range at upto end q r x y
    → ByEntries c a (map (in_file file) (parts range (cut_at at end))) (is_memory {T = T} (Err e)) q s x z
entries_refused T bytes.Fault c a file range at upto end p m n q r s x y z some less starts ends goes more cause there entry h = read_to_refused c a (map (in_file file) (parts range (cut_at at end))) false m q s x y z goes (λ u. cause)
entries_refused T (bytes.Gone k) c a file range at upto end p m n q r s x y z some less starts ends goes more cause there entry h =
    read_to_gone c a file range at upto end p false m n q r s x y z some less starts ends goes more (there cause.1) entry h
entries_refused T bytes.NoMemory c a file range at upto end p m n q r s x y z some less starts ends goes more cause there entry h = entries_lacked c a (map (in_file file) (parts range (cut_at at end))) q s x z
