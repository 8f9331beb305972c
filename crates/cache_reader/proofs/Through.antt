-- A read, as one of a list of reads.
use Rattle.std.proofs.Common.{arith, ◌≡◌, ◌≤◌, ◌<◌, ◌+◌, ℕ, Bool, true, false, List, length, take, drop, Option, Some, None, Result, Ok, Err, refl, sym, subst}
use Rattle.std.specs.Prelude.{IsTrue, IfOk, ◌||◌}
use Rattle.std.proofs.lemmas.List.{append-nil}
use Rattle.std.proofs.lemmas.Bool.{or_parts}
use Rattle.directory_input.specs.Reads.{Read, one_read}
use Rattle.blob_parts.specs.Tables.{file_length}
use Rattle.cache_reader.specs.declared.report.Report.{Report}
use Rattle.cache_reader.specs.Reports.{no_bytes, Counted}
use Rattle.cache_reader.specs.Parts.{ReadSetting, bytes_of}
use Rattle.cache_reader.specs.Going.{Moment, is_memory}
use Rattle.cache_reader.specs.Reader.{ReadsThrough, ReaderView, Reported, files_seen}
use Rattle.directory_input.specs.Files.{FilesView, FilesLater}
use Rattle.directory_input.specs.Causes.{IsCaused, HasReadCause, refusal}
use Rattle.directory_input.specs.declared.files.BytesError.{BytesError}
use Rattle.directory_input.specs.declared.files.BytesError.TheVariants.{Fault, Gone, NoMemory}
use Rattle.blob_parts.specs.Content.{slice_of}
use Rattle.cache_reader.specs.Filling.{PartGoes}
use Rattle.cache_reader.proofs.Joins.{counted_through, grew_through}
use Rattle.cache_door.specs.Machine.{State}
use Rattle.cache_reader.specs.Alone.{Outcome, Exactly, ByEntries, FilePart, entry_for, outcome_over, parts_of, read_outcome}
use Rattle.cache_reader.specs.Runs.{exactly_one}

raised : (first more : Bool) → IsTrue first → IsTrue (first || more)
raised true more h = refl
raised false more h = absurd (cc)

-- what a report counted from nothing is added to the sums
pub exactly_counted : (c : ReadSetting) (w : State → Outcome) (out_of_memory : Bool) (q r s : Report) (x y : Moment) → Counted q s r → Exactly c w out_of_memory no_bytes r x y → Exactly c w out_of_memory q s x y
exactly_counted c w out_of_memory q r s x y count h some told enough calm still t is one =
    let j = h some told enough calm still t is one in
    record { places = j.places; fetched = grew_through q.fetched s.fetched r.fetched (w t).fetched count.fetched j.fetched; direct = grew_through q.direct s.direct r.direct (w t).direct count.direct j.direct; state = j.state }

-- the same under a mark on memory that is not lower
entries_counted : (c : ReadSetting) (a : ℕ) (ps : List FilePart) (k l : Bool) (q r s : Report) (x y : Moment) → (l ≡ false → k ≡ false) → Counted q s r → ByEntries c a ps k no_bytes r x y → ByEntries c a ps l q s x y
entries_counted c a ps k l q r s x y marks count h told enough calm still t is one =
    let e = h told (marks enough) calm still t is one in
    let j = e.outcome in
    let w = outcome_over (entry_for c a) e.entered t in record {
      entered = e.entered;
      are = e.are;
      outcome = record { places = j.places; fetched = grew_through q.fetched s.fetched r.fetched w.fetched count.fetched j.fetched; direct = grew_through q.direct s.direct r.direct w.direct count.direct j.direct; state = j.state };
    }

-- one read, which is all parts of it
pub read_through : (c : ReadSetting) (a file at size given : ℕ) (k l : Bool) (q r s : Report) (x y : Moment) → file < length c.table.files → at + size ≤ file_length c.table file → given ≤ size
    → PartGoes c given k no_bytes r x y → Counted q s r → (let read : Read = record { file = file; at = at; size = size } in
    Exactly c (read_outcome c a read) k no_bytes r x y → ByEntries c a (parts_of c.config.range read) k no_bytes r x y → ReadsThrough c a (one_read file at size) q s l (l || k) x y)
read_through c a file at size given k l q r s x y number inside most h count exact entries =
    let read : Read = record { file = file; at = at; size = size } in
    let marks : (l || k) ≡ false → k ≡ false = λ e. (or_parts l k e).1 in record {
      allowed = (number, inside, tt);
      marked = raised l k;
      counts = h.counts;
      total = counted_through q s r h.counts count h.report;
      most = omega (arith, h.all, most);
      goes = h.goes;
      takes = λ told. let t = h.takes told in record { places = t.places; took = t.took; bound = λ enough calm. t.bound (marks enough) calm; counted = λ enough calm still. t.counted (marks enough) calm still };
      exact = exactly_one c a read k (l || k) q s x y marks (exactly_counted c (read_outcome c a read) k q r s x y count exact);
      entries = subst (λ ps. ByEntries c a ps (l || k) q s x y) (sym (append-nil (parts_of c.config.range read))) (entries_counted c a (parts_of c.config.range read) k (l || k) q r s x y marks count entries);
    }

plain : (first more : Bool) → more ≡ false → (first || more) ≡ first
plain true more e = refl
plain false more e = e

-- the same, where it wanted no memory
pub read_calmly : (c : ReadSetting) (a file at size given : ℕ) (k l : Bool) (q r s : Report) (x y : Moment) → file < length c.table.files → at + size ≤ file_length c.table file → given ≤ size
    → PartGoes c given k no_bytes r x y → Counted q s r → (let read : Read = record { file = file; at = at; size = size } in
    Exactly c (read_outcome c a read) k no_bytes r x y → ByEntries c a (parts_of c.config.range read) k no_bytes r x y → k ≡ false → ReadsThrough c a (one_read file at size) q s l l x y)
read_calmly c a file at size given k l q r s x y number inside most h count exact entries enough =
    subst (λ b. ReadsThrough c a (one_read file at size) q s l b x y) (plain l k enough) (read_through c a file at size given k l q r s x y number inside most h count exact entries)

-- what became of the sums, the counts of the door and the buffer
pub reported : (read : Read) (result : Result Report BytesError) (before now : List ℕ) (v w : ReaderView) (k : Bool) (rep : Report)
    → PartGoes v.setting (rep.hit + rep.direct) k no_bytes rep v.moment w.moment → Counted v.total w.total rep → rep.hit + rep.direct ≤ read.size
    → (IsTrue v.setting.tells → IsTrue v.moment.door.frames_tell → take (rep.hit + rep.direct) now ≡ slice_of (bytes_of v.setting read.file) read.at (rep.hit + rep.direct))
    → drop (rep.hit + rep.direct + v.setting.config.range) now ≡ drop (rep.hit + rep.direct + v.setting.config.range) before
    → ((m : Report) → Counted no_bytes rep m → IfOk result (λ n. Counted no_bytes n m × (n.hit + n.direct ≡ read.size) × Exactly v.setting (read_outcome v.setting v.moment.door.actor read) false no_bytes n v.moment w.moment))
    → Reported read result before now v w
reported read result before now v w k rep h total most filled untouched answer = record {
  counts = h.counts;
  total = counted_through v.total w.total rep h.counts total h.report;
  work = h.goes.work;
  reached = omega (arith, h.all, most);
  filled = λ told frames. subst (λ n. take n now ≡ slice_of (bytes_of v.setting read.file) read.at n) (sym h.all) (filled told frames);
  untouched = subst (λ n. drop (n + v.setting.config.range) now ≡ drop (n + v.setting.config.range) before) (sym h.all) untouched;
  answer = answer h.counts h.report;
}

-- ---- the cause of a refusal

pub caused_marked : (r : Option BytesError) (c : ReadSetting) (x y : Moment) (p q : Bool) → IsCaused (files_seen c x false) (files_seen c y false) r → IsCaused (files_seen c x p) (files_seen c y q) r
caused_marked None c x y p q h = tt
caused_marked (Some Fault) c x y p q h = h
caused_marked (Some (Gone m)) c x y p q h = h
caused_marked (Some NoMemory) c x y p q h = tt

false_or : (before now : Bool) → now ≡ (before || false) → before ≡ false → now ≡ false
false_or false now h e = h
false_or true now h e = absurd (cc)

true_or : (before now : Bool) → now ≡ (before || true) → IsTrue now
true_or false now h = h
true_or true now h = h

-- where the mark was raised by want of memory alone
pub read_cause : {T : Type 0} (r : Result T BytesError) (before now : FilesView) → FilesLater before now → IsCaused before now (refusal r) → now.out_of_memory ≡ (before.out_of_memory || is_memory r) → HasReadCause before now (refusal r)
read_cause (Ok x) before now files cause mark = record { bytes = record { files = files; cause = cause; memory = λ e. false_or before.out_of_memory now.out_of_memory mark e }; raised = λ e. absurd (cc) }
read_cause (Err Fault) before now files cause mark = record { bytes = record { files = files; cause = cause; memory = λ e. false_or before.out_of_memory now.out_of_memory mark e }; raised = λ e. absurd (cc) }
read_cause (Err (Gone m)) before now files cause mark = record { bytes = record { files = files; cause = cause; memory = λ e. false_or before.out_of_memory now.out_of_memory mark e }; raised = λ e. absurd (cc) }
read_cause (Err NoMemory) before now files cause mark = record { bytes = record { files = files; cause = cause; memory = λ e. tt }; raised = λ e. true_or before.out_of_memory now.out_of_memory mark }
