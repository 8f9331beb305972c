-- Parts and reads that go just as the definitions say, one after another.
use Rattle.std.proofs.Common.{arith, ◌≡◌, ◌<◌, ◌+◌, ◌-◌, ◌*◌, ◌/◌, ℕ, List, [], ◌∷◌, ◌++◌, length, Bool, true, false, Option, Some, None, min, map, refl, ap, sym, subst, ◌∙◌}
use Rattle.std.proofs.lemmas.List.{append-nil, map-append}
use Rattle.region_ranges.specs.declared.ranges.ByteRange.{ByteRange}
use Rattle.byte_text.specs.Counts.{Rose}
use Rattle.blob_parts.specs.Content.{slice_of}
use Rattle.blob_parts.specs.Takes.{Took}
use Rattle.cache_door.specs.declared.answers.Entered.{Entered}
use Rattle.cache_door.specs.declared.answers.Entered.TheVariants.{Held, NoRoom}
use Rattle.cache_door.specs.Machine.{State, hold_at, is_gone, enter, leave}
use Rattle.cache_door.specs.Doors.{range_start, range_end}
use Rattle.cache_door.specs.Takes.{parts, want_of, taken_by, spread_over}
use Rattle.cache_reader.specs.declared.report.Report.{Report}
use Rattle.cache_reader.specs.Reports.{Grew}
use Rattle.cache_reader.specs.Parts.{ReadSetting, bytes_of, places_of}
use Rattle.cache_reader.specs.Going.{Moment, Goes}
use Rattle.cache_reader.specs.Alone.{Outcome, part_outcome, fetched_by, HasOutcome, FilePart, in_file, ByEntries}
use Rattle.cache_reader.specs.Stored.{gap_stored}
use Rattle.cache_reader.proofs.Cuts.{cut_at, next_cut, parts_step, parts_done}
use Rattle.cache_reader.proofs.Stores.{after_gap}
use Rattle.cache_reader.proofs.Joins.{rose_then}
pub use Rattle.cache_reader.specs.Runs.{entry_outcome, part_as, just_unchanged, calmly_as, calmly_lacked, entries_none, entries_more, entries_one, entries_gone, exactly_entries}

-- ---- one part, by the answer to its entry

-- a range of places
pub spread_range : (places : List (ℕ × ℕ)) (p : ByteRange) → spread_over places (p ∷ []) ≡ slice_of places p.start (p.end - p.start)
spread_range places p = append-nil (slice_of places p.start (p.end - p.start))

pub gap_places : (places : List (ℕ × ℕ)) (r base : ℕ) (gap : Option ByteRange) (p : ByteRange)
    → spread_over places (taken_by (Held r gap) base p) ≡ slice_of places (base + range_start gap) (range_end gap - range_start gap)
gap_places places r base None p = refl
gap_places places r base (Some g) p =
    let size : base + g.end - (base + g.start) ≡ g.end - g.start = omega arith in
    append-nil (slice_of places (base + g.start) (base + g.end - (base + g.start))) ∙ ap (slice_of places (base + g.start)) size

pub gap_fetched : (r : ℕ) (gap : Option ByteRange) → fetched_by (Held r gap) ≡ range_end gap - range_start gap
gap_fetched r None = refl
gap_fetched r (Some g) = refl

-- the entry of a part
abbrev pub part_entry : ReadSetting → ℕ → ℕ → ByteRange → State → Entered × State
part_entry c a file p s = enter a c.mount (want_of s.config.region c.table.number file (length (bytes_of c file)) p) c.now s

-- its region's first byte
abbrev pub part_base : ByteRange → State → ℕ
part_base p s = p.start / s.config.region * s.config.region

-- the gap was taken, counted and stored, and the hold given back
pub just_held : (c : ReadSetting) (a file : ℕ) (p : ByteRange) (s t : State) (r : ℕ) (gap : Option ByteRange) (q now : Report) (x y : Moment)
    → part_entry c a file p s ≡ (Held r gap, t)
    → Took x.source.reads y.source.reads (slice_of (places_of c file) (part_base p s + range_start gap) (range_end gap - range_start gap))
    → Grew q.fetched now.fetched (range_end gap - range_start gap) → Grew q.direct now.direct 0
    → (let u = gap_stored c a file (part_base p s) gap t in y.door.state ≡ Some (leave a (hold_at u a) u))
    → HasOutcome (part_outcome c a file p s) q now x y
just_held c a file p s t r gap q now x y entry taken fetched direct state =
    let P : Outcome → Type 0 = λ w. HasOutcome w q now x y in
    let v = entry_outcome c a file p (part_base p s) (Held r gap, t) in
    subst P (sym (part_as c a file p s (Held r gap) t entry)) (record {
      places = subst (λ ps. Took x.source.reads y.source.reads ps) (sym (gap_places (places_of c file) r (part_base p s) gap p)) taken;
      fetched = subst (λ n. Grew q.fetched now.fetched n) (sym (gap_fetched r gap)) fetched;
      direct = direct;
      state = state ∙ ap Some (sym (after_gap c a file (part_base p s) r gap t));
    })

-- the part was read past the cache
pub just_direct : (c : ReadSetting) (a file : ℕ) (p : ByteRange) (s t : State) (q now : Report) (x y : Moment)
    → part_entry c a file p s ≡ (NoRoom, t)
    → Took x.source.reads y.source.reads (slice_of (places_of c file) p.start (p.end - p.start))
    → Grew q.fetched now.fetched 0 → Grew q.direct now.direct (p.end - p.start) → y.door.state ≡ Some t
    → HasOutcome (part_outcome c a file p s) q now x y
just_direct c a file p s t q now x y entry taken fetched direct state =
    let P : Outcome → Type 0 = λ w. HasOutcome w q now x y in
    subst P (sym (part_as c a file p s NoRoom t entry)) (record {
      places = subst (λ ps. Took x.source.reads y.source.reads ps) (sym (spread_range (places_of c file) p)) taken;
      fetched = fetched;
      direct = direct;
      state = state;
    })

-- ---- the parts of a read, one after another

-- Of the bytes of a file from place `at` up to place `end` those up to place `upto` were read: `done` are their parts, and behind them
-- come those of the rest.
pub record ReadTo (c : ReadSetting) (a file range at upto end : ℕ) (report_before report_now : Report) (x y : Moment) : Type 0 where
  pub done : List ByteRange
  pub cut : done ++ parts range (cut_at upto end) ≡ parts range (cut_at at end)
  pub entries : ByEntries c a (map (in_file file) done) false report_before report_now x y

pub read_to_none : (c : ReadSetting) (a file range at end : ℕ) (r : Report) (x : Moment) → ReadTo c a file range at at end r r x x
read_to_none c a file range at end r x = record { done = []; cut = refl; entries = entries_none c a false r x }

-- and one part more
one_more : (c : ReadSetting) (a file : ℕ) (ps : List ByteRange) (p : ByteRange) (out_of_memory : Bool) (m n q r s : Report) (x y z : Moment) → Goes c m x y → Goes c n y z
    → ByEntries c a (map (in_file file) ps) false q r x y → ByEntries c a (in_file file p ∷ []) out_of_memory r s y z → ByEntries c a (map (in_file file) (ps ++ p ∷ [])) out_of_memory q s x z
one_more c a file ps p out_of_memory m n q r s x y z goes more h k =
    subst (λ qs. ByEntries c a qs out_of_memory q s x z) (sym (map-append (in_file file) ps (p ∷ [])))
    (entries_more c a (map (in_file file) ps) (in_file file p ∷ []) false out_of_memory out_of_memory m n q r s x y z (λ e. refl) (λ e. e) goes more h k)

pub read_to_more : (c : ReadSetting) (a file range at upto end : ℕ) (p : ByteRange) (m n q r s : Report) (x y z : Moment)
    → 0 < range → upto < end → p.start ≡ upto → p.end ≡ min end (next_cut upto range) → Goes c m x y → Goes c n y z
    → ByEntries c a (in_file file p ∷ []) false r s y z → ReadTo c a file range at upto end q r x y → ReadTo c a file range at p.end end q s x z
read_to_more c a file range at upto end p m n q r s x y z some less starts ends goes more entry h = record {
  done = h.done ++ p ∷ [];
  cut = parts_step range upto end (parts range (cut_at at end)) h.done p some less starts ends h.cut;
  entries = one_more c a file h.done p false m n q r s x y z goes more h.entries entry;
}

-- all of them
pub read_to_all : (c : ReadSetting) (a file range at upto end : ℕ) (q r : Report) (x y : Moment) → upto ≡ end → ReadTo c a file range at upto end q r x y
    → ByEntries c a (map (in_file file) (parts range (cut_at at end))) false q r x y
read_to_all c a file range at upto end q r x y e h =
    let P : List ByteRange → Type 0 = λ ps. ByEntries c a (map (in_file file) ps) false q r x y in
    subst P (parts_done range upto end (parts range (cut_at at end)) h.done e h.cut) h.entries

-- the next part was refused, since the mount is gone
pub read_to_gone : (c : ReadSetting) (a file range at upto end : ℕ) (p : ByteRange) (out_of_memory : Bool) (m n q r s : Report) (x y z : Moment)
    → 0 < range → upto < end → p.start ≡ upto → p.end ≡ min end (next_cut upto range) → Goes c m x y → Goes c n y z
    → ((t : State) → z.door.state ≡ Some t → is_gone t c.mount ≡ true)
    → ByEntries c a (in_file file p ∷ []) out_of_memory r s y z → ReadTo c a file range at upto end q r x y
    → ByEntries c a (map (in_file file) (parts range (cut_at at end))) out_of_memory q s x z
read_to_gone c a file range at upto end p out_of_memory m n q r s x y z some less starts ends goes more gone entry h =
    let rest = parts range (cut_at p.end end) in
    let P : List ByteRange → Type 0 = λ ps. ByEntries c a (map (in_file file) ps) out_of_memory q s x z in
    subst P (parts_step range upto end (parts range (cut_at at end)) h.done p some less starts ends h.cut)
    (subst (λ qs. ByEntries c a qs out_of_memory q s x z) (sym (map-append (in_file file) (h.done ++ p ∷ []) rest))
    (entries_gone c a (map (in_file file) (h.done ++ p ∷ [])) (map (in_file file) rest) out_of_memory q s x z gone
    (one_more c a file h.done p out_of_memory m n q r s x y z goes more h.entries entry)))

-- the next part was refused otherwise: for want of memory, or since the source's count rose
pub read_to_refused : (c : ReadSetting) (a : ℕ) (ps : List FilePart) (out_of_memory : Bool) (m q s : Report) (x y z : Moment) → Goes c m x y → (out_of_memory ≡ false → Rose y.source.faults z.source.faults)
    → ByEntries c a ps out_of_memory q s x z
read_to_refused c a ps out_of_memory m q s x y z goes cause told enough calm still t is one = absurd (calm (rose_then x.source.faults y.source.faults z.source.faults goes.faults (cause enough)))
