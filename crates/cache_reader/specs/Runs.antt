-- Reads that go just as the definitions say, one after another.
use Rattle.std.proofs.Common.{arith, zero-add, ◌≡◌, ◌+◌, ◌-◌, ◌*◌, ◌/◌, ℕ, List, [], ◌∷◌, ◌++◌, length, Bool, true, false, Option, Some, None, ◌<◌, map, refl, ap, sym, subst, ◌∙◌, inl, inr}
use Rattle.std.specs.Prelude.{◌==◌, if◌then◌else◌}
use Rattle.region_ranges.specs.declared.keys.Config.{Config}
use Rattle.std.proofs.lemmas.Grind.{flat_map-append}
use Rattle.std.proofs.lemmas.List.{append-nil, append_assoc, length-set}
use Rattle.region_ranges.specs.declared.ranges.ByteRange.{ByteRange}
use Rattle.region_ranges.specs.Keys.{tag_of}
use Rattle.cache_policy.specs.Policy.{PolicyView, find}
use Rattle.freq_lists.specs.Lists.{head}
use Rattle.directory_input.specs.Reads.{Read}
use Rattle.region_cell.specs.Cells.{len_of}
use Rattle.blob_parts.specs.Content.{slice_of}
use Rattle.blob_parts.specs.Takes.{Took}
use Rattle.cache_door.specs.declared.answers.Want.{Want}
use Rattle.cache_door.specs.declared.answers.Entered.{Entered}
use Rattle.cache_door.specs.declared.answers.Entered.TheVariants.{Held, NoRoom, Gone}
use Rattle.cache_door.specs.declared.hold.Hold.{Hold}
use Rattle.cache_door.specs.Machine.{State, cell_at, hold_at, is_gone, hold, place, enter_at, enter, make_room, store, leave}
use Rattle.cache_door.specs.Takes.{parts, want_of, taken_by, after, visit, run_over, spread_over}
use Rattle.cache_reader.specs.declared.report.Report.{Report}
use Rattle.cache_reader.specs.Parts.{ReadSetting, bytes_of, places_of}
use Rattle.cache_reader.specs.Going.{Moment, Goes}
use Rattle.cache_reader.specs.Alone.{Outcome, part_outcome, outcome_over, read_outcome, reads_outcome, unchanged, then_outcome, whole_of, fetched_by, direct_by, HasOutcome, Calmly, Exactly, FilePart, in_file, parts_of, entry_for, AreEntered, ByEntries}
use Rattle.blob_parts.specs.Reading.{took_both, rose_first, rose_then}
use Rattle.cache_reader.specs.Through.{took_none, grew_none, grew_more}

-- ---- one behind another

pub same_outcome : (w v : Outcome) → w.places ≡ v.places → w.fetched ≡ v.fetched → w.direct ≡ v.direct → w.state ≡ v.state → w ≡ v
same_outcome w v p f d s =
    ap (λ x. let u : Outcome = record { places = x; fetched = w.fetched; direct = w.direct; state = w.state } in u) p
    ∙ ap (λ x. let u : Outcome = record { places = v.places; fetched = x; direct = w.direct; state = w.state } in u) f
    ∙ ap (λ x. let u : Outcome = record { places = v.places; fetched = v.fetched; direct = x; state = w.state } in u) d
    ∙ ap (λ x. let u : Outcome = record { places = v.places; fetched = v.fetched; direct = v.direct; state = x } in u) s

pub unchanged_then : (s : State) (w : Outcome) → then_outcome (unchanged s) w ≡ w
unchanged_then s w = same_outcome (then_outcome (unchanged s) w) w refl (zero-add w.fetched) (zero-add w.direct) refl

pub then_unchanged : (w : Outcome) → then_outcome w (unchanged w.state) ≡ w
then_unchanged w = same_outcome (then_outcome w (unchanged w.state)) w (append-nil w.places) (omega arith) (omega arith) refl

pub then_assoc : (u v w : Outcome) → then_outcome (then_outcome u v) w ≡ then_outcome u (then_outcome v w)
then_assoc u v w = same_outcome (then_outcome (then_outcome u v) w) (then_outcome u (then_outcome v w)) (append_assoc u.places v.places w.places) (omega arith) (omega arith) refl

pub over_one : {X : Type 0} (go : X → State → Outcome) (x : X) (s : State) → outcome_over go (x ∷ []) s ≡ go x s
over_one go x s = then_unchanged (go x s)

pub over_more : {X : Type 0} (go : X → State → Outcome) (xs ys : List X) (s : State) → outcome_over go (xs ++ ys) s ≡ then_outcome (outcome_over go xs s) (outcome_over go ys (outcome_over go xs s).state)
over_more go [] ys s = sym (unchanged_then s (outcome_over go ys s))
over_more go (x ∷ xs) ys s =
    ap (then_outcome (go x s)) (over_more go xs ys (go x s).state)
    ∙ sym (then_assoc (go x s) (outcome_over go xs (go x s).state) (outcome_over go ys (outcome_over go xs (go x s).state).state))

pub over_push : {X : Type 0} (go : X → State → Outcome) (xs : List X) (x : X) (s : State) → outcome_over go (xs ++ x ∷ []) s ≡ then_outcome (outcome_over go xs s) (go x (outcome_over go xs s).state)
over_push go xs x s = over_more go xs (x ∷ []) s ∙ ap (then_outcome (outcome_over go xs s)) (over_one go x (outcome_over go xs s).state)

-- ---- what stays of a state

-- settings, frames, mounts and the number of actors
pub record Stays (s t : State) : Type 0 where
  pub config : t.config ≡ s.config
  pub told : t.told ≡ s.told
  pub gone : t.gone ≡ s.gone
  pub actors : length t.holds ≡ length s.holds

pub stays_none : (s : State) → Stays s s
stays_none s = record { config = refl; told = refl; gone = refl; actors = refl }

pub stays_more : (s t u : State) → Stays s t → Stays t u → Stays s u
stays_more s t u h k = record { config = k.config ∙ h.config; told = k.told ∙ h.told; gone = k.gone ∙ h.gone; actors = k.actors ∙ h.actors }

stays_hold : (a r : ℕ) (want : Want) (s : State) → Stays s (hold a r want s).1
stays_hold a r want s = record { config = refl; told = refl; gone = refl; actors = length-set s.holds a _ }

stays_place : (a : ℕ) (o : Option ℕ) (p : PolicyView) (want : Want) (now : ℕ) (s : State) → Stays s (place a o p want now s).1
stays_place a None p want now s = stays_none s
stays_place a (Some r) p want now s = record { config = refl; told = refl; gone = refl; actors = length-set s.holds a _ }

stays_if : (b : Bool) (x y : Entered × State) (s : State) → Stays s x.1 → Stays s y.1 → Stays s (if b then x else y).1
stays_if true x y s h k = h
stays_if false x y s h k = k

stays_at : (o : Option ℕ) (a : ℕ) (want : Want) (now : ℕ) (s : State) → Stays s (enter_at o a want now s).1
stays_at None a want now s = stays_place a (head (make_room s).free) (make_room s) want now s
stays_at (Some r) a want now s = stays_if (len_of (cell_at s r).region == want.len) _ (NoRoom, s) s (record { config = refl; told = refl; gone = refl; actors = length-set s.holds a _ }) (stays_none s)

pub stays_enter : (a mount : ℕ) (want : Want) (now : ℕ) (s : State) → Stays s (enter a mount want now s).1
stays_enter a mount want now s = stays_if (is_gone s mount) (Gone, s) (enter_at (find (tag_of want.key) s.policy) a want now s) s (stays_none s) (stays_at (find (tag_of want.key) s.policy) a want now s)

pub stays_store : (a : ℕ) (o : Option Hold) (piece : List ℕ) (s : State) → Stays s (store a o piece s)
stays_store a None piece s = stays_none s
stays_store a (Some h) piece s = record { config = refl; told = refl; gone = refl; actors = length-set s.holds a _ }

pub stays_leave : (a : ℕ) (o : Option Hold) (s : State) → Stays s (leave a o s)
stays_leave a None s = stays_none s
stays_leave a (Some h) s = record { config = refl; told = refl; gone = refl; actors = length-set s.holds a None }

pub stays_after : (e : Entered) (a : ℕ) (bytes : List ℕ) (base : ℕ) (s : State) → Stays s (after e a bytes base s)
stays_after Gone a bytes base s = stays_none s
stays_after NoRoom a bytes base s = stays_none s
stays_after (Held r None) a bytes base s = stays_leave a (hold_at s a) s
stays_after (Held r (Some g)) a bytes base s =
    let t = store a (hold_at s a) (slice_of bytes (base + g.start) (g.end - g.start)) s in
    stays_more s t (leave a (hold_at t a) t) (stays_store a (hold_at s a) (slice_of bytes (base + g.start) (g.end - g.start)) s) (stays_leave a (hold_at t a) t)

pub stays_visit : (a mount m f : ℕ) (bytes : List ℕ) (now : ℕ) (p : ByteRange) (s : State) → Stays s (visit a mount m f bytes now p s).1
stays_visit a mount m f bytes now p s =
    let size = s.config.region in
    let e = enter a mount (want_of size m f (length bytes) p) now s in
    stays_more s e.1 (after e.0 a bytes (p.start / size * size) e.1) (stays_enter a mount (want_of size m f (length bytes) p) now s) (stays_after e.0 a bytes (p.start / size * size) e.1)

pub visit_config : (a mount m f : ℕ) (bytes : List ℕ) (now : ℕ) (p : ByteRange) (s : State) → (visit a mount m f bytes now p s).1.config ≡ s.config
visit_config a mount m f bytes now p s = (stays_visit a mount m f bytes now p s).config

pub stays_over : {X : Type 0} (go : X → State → Outcome) → ((x : X) (s : State) → Stays s (go x s).state) → (xs : List X) (s : State) → Stays s (outcome_over go xs s).state
stays_over go one [] s = stays_none s
stays_over go one (x ∷ xs) s = stays_more s (go x s).state (outcome_over go xs (go x s).state).state (one x s) (stays_over go one xs (go x s).state)

pub stays_part : (c : ReadSetting) (a file : ℕ) (p : ByteRange) (s : State) → Stays s (part_outcome c a file p s).state
stays_part c a file p s = stays_visit a c.mount c.table.number file (bytes_of c file) c.now p s

pub stays_parts : (c : ReadSetting) (a file : ℕ) (ps : List ByteRange) (s : State) → Stays s (outcome_over (part_outcome c a file) ps s).state
stays_parts c a file ps s = stays_over (part_outcome c a file) (stays_part c a file) ps s

-- ---- a read is its parts

pub over_state : (c : ReadSetting) (a file : ℕ) (ps : List ByteRange) (s : State)
    → (outcome_over (part_outcome c a file) ps s).state ≡ (run_over (visit a c.mount c.table.number file (bytes_of c file) c.now) ps s).1
over_state c a file [] s = refl
over_state c a file (p ∷ ps) s = over_state c a file ps (visit a c.mount c.table.number file (bytes_of c file) c.now p s).1

pub over_places : (c : ReadSetting) (a file : ℕ) (ps : List ByteRange) (s : State)
    → (outcome_over (part_outcome c a file) ps s).places ≡ spread_over (places_of c file) (run_over (visit a c.mount c.table.number file (bytes_of c file) c.now) ps s).0
over_places c a file [] s = refl
over_places c a file (p ∷ ps) s =
    let go = visit a c.mount c.table.number file (bytes_of c file) c.now in
    let x = go p s in
    ap (λ ys. spread_over (places_of c file) x.0 ++ ys) (over_places c a file ps x.1)
    ∙ sym (flat_map-append (λ (r : ByteRange). slice_of (places_of c file) r.start (r.end - r.start)) x.0 (run_over go ps x.1).0)

pub read_is_parts : (c : ReadSetting) (a : ℕ) (r : Read) (s : State) → read_outcome c a r s ≡ outcome_over (part_outcome c a r.file) (parts s.config.range (whole_of r)) s
read_is_parts c a r s =
    let ps = parts s.config.range (whole_of r) in
    same_outcome (read_outcome c a r s) (outcome_over (part_outcome c a r.file) ps s) (sym (over_places c a r.file ps s)) refl refl (sym (over_state c a r.file ps s))

pub stays_read : (c : ReadSetting) (a : ℕ) (r : Read) (s : State) → Stays s (read_outcome c a r s).state
stays_read c a r s = let P : Outcome → Type 0 = λ w. Stays s w.state in subst P (sym (read_is_parts c a r s)) (stays_parts c a r.file (parts s.config.range (whole_of r)) s)

pub stays_reads : (c : ReadSetting) (a : ℕ) (rs : List Read) (s : State) → Stays s (reads_outcome c a rs s).state
stays_reads c a rs s = stays_over (read_outcome c a) (stays_read c a) rs s

pub alone_part : (c : ReadSetting) (a file : ℕ) (p : ByteRange) (s : State) → length (part_outcome c a file p s).state.holds ≡ length s.holds
alone_part c a file p s = (stays_part c a file p s).actors

pub alone_over : (c : ReadSetting) (a file : ℕ) (ps : List ByteRange) (s : State) → length (outcome_over (part_outcome c a file) ps s).state.holds ≡ length s.holds
alone_over c a file ps s = (stays_parts c a file ps s).actors

pub alone_read : (c : ReadSetting) (a : ℕ) (r : Read) (s : State) → length (read_outcome c a r s).state.holds ≡ length s.holds
alone_read c a r s = (stays_read c a r s).actors

pub alone_reads : (c : ReadSetting) (a : ℕ) (rs : List Read) (s : State) → length (reads_outcome c a rs s).state.holds ≡ length s.holds
alone_reads c a rs s = (stays_reads c a rs s).actors

-- ---- a mount that is gone

-- what an entry with the state behind it makes of a part
abbrev pub entry_outcome : ReadSetting → ℕ → ℕ → ByteRange → ℕ → Entered × State → Outcome
entry_outcome c a file p base e = record { places = spread_over (places_of c file) (taken_by e.0 base p); fetched = fetched_by e.0; direct = direct_by e.0 p; state = after e.0 a (bytes_of c file) base e.1 }

pub part_by : (c : ReadSetting) (a file : ℕ) (p : ByteRange) (s : State)
    → part_outcome c a file p s ≡ entry_outcome c a file p (p.start / s.config.region * s.config.region) (enter a c.mount (want_of s.config.region c.table.number file (length (bytes_of c file)) p) c.now s)
part_by c a file p s = refl

pub part_as : (c : ReadSetting) (a file : ℕ) (p : ByteRange) (s : State) (e : Entered) (t : State) → enter a c.mount (want_of s.config.region c.table.number file (length (bytes_of c file)) p) c.now s ≡ (e, t)
    → part_outcome c a file p s ≡ entry_outcome c a file p (p.start / s.config.region * s.config.region) (e, t)
part_as c a file p s e t h = ap (entry_outcome c a file p (p.start / s.config.region * s.config.region)) h

entered_gone : (a mount : ℕ) (want : Want) (now : ℕ) (s : State) → is_gone s mount ≡ true → enter a mount want now s ≡ (Gone, s)
entered_gone a mount want now s h = rw h refl

pub gone_part : (c : ReadSetting) (a file : ℕ) (p : ByteRange) (s : State) → is_gone s c.mount ≡ true → part_outcome c a file p s ≡ unchanged s
gone_part c a file p s h = part_as c a file p s Gone s (entered_gone a c.mount (want_of s.config.region c.table.number file (length (bytes_of c file)) p) c.now s h)

pub gone_over : (c : ReadSetting) (a file : ℕ) (ps : List ByteRange) (s : State) → is_gone s c.mount ≡ true → outcome_over (part_outcome c a file) ps s ≡ unchanged s
gone_over c a file [] s h = refl
gone_over c a file (p ∷ ps) s h =
    ap (λ (w : Outcome). then_outcome w (outcome_over (part_outcome c a file) ps w.state)) (gone_part c a file p s h)
    ∙ unchanged_then s (outcome_over (part_outcome c a file) ps s)
    ∙ gone_over c a file ps s h

pub gone_read : (c : ReadSetting) (a : ℕ) (r : Read) (s : State) → is_gone s c.mount ≡ true → read_outcome c a r s ≡ unchanged s
gone_read c a r s h = read_is_parts c a r s ∙ gone_over c a r.file (parts s.config.range (whole_of r)) s h

pub gone_reads : (c : ReadSetting) (a : ℕ) (rs : List Read) (s : State) → is_gone s c.mount ≡ true → reads_outcome c a rs s ≡ unchanged s
gone_reads c a [] s h = refl
gone_reads c a (r ∷ rs) s h =
    ap (λ (w : Outcome). then_outcome w (outcome_over (read_outcome c a) rs w.state)) (gone_read c a r s h)
    ∙ unchanged_then s (outcome_over (read_outcome c a) rs s)
    ∙ gone_reads c a rs s h

-- ---- in calm, one behind another

pub just_more : (w v : Outcome) (q r s : Report) (x y z : Moment) → HasOutcome w q r x y → HasOutcome v r s y z → HasOutcome (then_outcome w v) q s x z
just_more w v q r s x y z h k = record {
  places = took_both x.source.reads y.source.reads z.source.reads w.places v.places h.places k.places;
  fetched = grew_more q.fetched r.fetched s.fetched w.fetched v.fetched h.fetched k.fetched;
  direct = grew_more q.direct r.direct s.direct w.direct v.direct h.direct k.direct;
  state = k.state;
}

pub just_unchanged : (s : State) (r : Report) (x y : Moment) → x.door.state ≡ Some s → y.source.reads ≡ x.source.reads → y.door.state ≡ x.door.state → HasOutcome (unchanged s) r r x y
just_unchanged s r x y is same kept = record {
  places = subst (λ t. Took x.source.reads t []) (sym same) (took_none x.source.reads);
  fetched = grew_none r.fetched;
  direct = grew_none r.direct;
  state = kept ∙ is;
}

-- nothing was done, and nothing taken
pub calmly_unchanged : (c : ReadSetting) (out_of_memory : Bool) (r : Report) (x y : Moment) → y.source.reads ≡ x.source.reads → y.door.state ≡ x.door.state → Calmly c unchanged out_of_memory r r x y
calmly_unchanged c out_of_memory r x y same kept told enough calm still s is one = just_unchanged s r x y is same kept

-- the same by another name
pub calmly_as : (c : ReadSetting) (w v : State → Outcome) (out_of_memory : Bool) (q r : Report) (x y : Moment) → ((s : State) → x.door.state ≡ Some s → w s ≡ v s) → Calmly c w out_of_memory q r x y → Calmly c v out_of_memory q r x y
calmly_as c w v out_of_memory q r x y same h told enough calm still s is one = let P : Outcome → Type 0 = λ u. HasOutcome u q r x y in subst P (same s is) (h told enough calm still s is one)

-- want of memory, and a count that rose
pub calmly_lacked : (c : ReadSetting) (w : State → Outcome) (q r : Report) (x y : Moment) → Calmly c w true q r x y
calmly_lacked c w q r x y told enough calm still s is one = absurd (cc)

-- `w` and then `v`: each with its own mark on memory, which both are false where that of both is
pub calmly_more : (c : ReadSetting) (w v : State → Outcome) (k l j : Bool) (m n : Report) (q r s : Report) (x y z : Moment)
    → (j ≡ false → k ≡ false) → (j ≡ false → l ≡ false) → ((t : State) → x.door.state ≡ Some t → length t.holds ≡ 1 → length (w t).state.holds ≡ 1)
    → Goes c m x y → Goes c n y z → Calmly c w k q r x y → Calmly c v l r s y z → Calmly c (λ t. then_outcome (w t) (v (w t).state)) j q s x z
calmly_more c w v k l j m n q r s x y z first second actors goes more h g told enough calm still t is one =
    let front = h told (first enough) (λ e. calm (rose_first x.source.faults y.source.faults z.source.faults more.faults e)) (λ e. still (rose_first x.door.frame_faults y.door.frame_faults z.door.frame_faults more.frame_faults e)) t is one in
    let back = g told (second enough) (λ e. calm (rose_then x.source.faults y.source.faults z.source.faults goes.faults e)) (λ e. still (rose_then x.door.frame_faults y.door.frame_faults z.door.frame_faults goes.frame_faults e)) (w t).state front.state (actors t is one) in
    just_more (w t) (v (w t).state) q r s x y z front back

-- behind some reads the next ones
pub calmly_reads : (c : ReadSetting) (a : ℕ) (rs ts : List Read) (k l j : Bool) (m n : Report) (q r s : Report) (x y z : Moment)
    → (j ≡ false → k ≡ false) → (j ≡ false → l ≡ false) → Goes c m x y → Goes c n y z
    → Calmly c (reads_outcome c a rs) k q r x y → Calmly c (reads_outcome c a ts) l r s y z → Calmly c (reads_outcome c a (rs ++ ts)) j q s x z
calmly_reads c a rs ts k l j m n q r s x y z first second goes more h g =
    let go = read_outcome c a in
    calmly_as c (λ t. then_outcome (reads_outcome c a rs t) (reads_outcome c a ts (reads_outcome c a rs t).state)) (reads_outcome c a (rs ++ ts)) j q s x z (λ t is. sym (over_more go rs ts t))
    (calmly_more c (reads_outcome c a rs) (reads_outcome c a ts) k l j m n q r s x y z first second (λ t is one. alone_reads c a rs t ∙ one) goes more h g)

-- no reads
pub exactly_none : (c : ReadSetting) (a : ℕ) (out_of_memory : Bool) (r : Report) (x : Moment) → Exactly c (reads_outcome c a []) out_of_memory r r x x
exactly_none c a out_of_memory r x some = calmly_unchanged c out_of_memory r x x refl refl

-- behind some reads the next ones: no mark on memory is taken back
pub exactly_more : (c : ReadSetting) (a : ℕ) (rs ts : List Read) (v w : Bool) (m n : Report) (q r s : Report) (x y z : Moment) → (w ≡ false → v ≡ false) → Goes c m x y → Goes c n y z
    → Exactly c (reads_outcome c a rs) v q r x y → Exactly c (reads_outcome c a ts) w r s y z → Exactly c (reads_outcome c a (rs ++ ts)) w q s x z
exactly_more c a rs ts v w m n q r s x y z marks goes more h g some = calmly_reads c a rs ts v w w m n q r s x y z marks (λ u. u) goes more (h some) (g some)

-- one read alone, under a mark on memory that is not lower than its own
pub exactly_one : (c : ReadSetting) (a : ℕ) (r : Read) (k l : Bool) (p q : Report) (x y : Moment) → (l ≡ false → k ≡ false) → Exactly c (read_outcome c a r) k p q x y → Exactly c (reads_outcome c a (r ∷ [])) l p q x y
exactly_one c a r k l p q x y marks h some told enough calm still s is one =
    let P : Outcome → Type 0 = λ u. HasOutcome u p q x y in subst P (sym (over_one (read_outcome c a) r s)) (h some told (marks enough) calm still s is one)

-- ---- parts that were entered for, one behind another

pub stays_entries : (c : ReadSetting) (a : ℕ) (ps : List FilePart) (s : State) → Stays s (outcome_over (entry_for c a) ps s).state
stays_entries c a ps s = stays_over (entry_for c a) (λ q t. stays_part c a q.file q.part t) ps s

are_more : (c : ReadSetting) (a : ℕ) (qs rs ps ms : List FilePart) (s : State) → AreEntered c a ps qs s → AreEntered c a ms rs (outcome_over (entry_for c a) ps s).state → AreEntered c a (ps ++ ms) (qs ++ rs) s
are_more c a [] rs ps ms s h k =
    let P : List FilePart → Type 0 = λ l. AreEntered c a ms rs (outcome_over (entry_for c a) l s).state → AreEntered c a (l ++ ms) rs s in
    subst P (sym h) (λ g. g) k
are_more c a (q ∷ qs) rs ps ms s (inl g) k = inl (g.0, are_more c a qs rs ps ms s g.1 k)
are_more c a (q ∷ qs) rs ps ms s (inr g) k =
    let P : List FilePart → Type 0 = λ l. AreEntered c a ms rs (outcome_over (entry_for c a) l s).state in
    inr (g.0 ++ ms, ap (λ l. l ++ ms) g.1, are_more c a qs rs g.0 ms (entry_for c a q s).state g.2 (subst P g.1 k))

pub entries_none : (c : ReadSetting) (a : ℕ) (out_of_memory : Bool) (r : Report) (x : Moment) → ByEntries c a [] out_of_memory r r x x
entries_none c a out_of_memory r x told enough calm still s is one = record { entered = []; are = refl; outcome = just_unchanged s r x x is refl refl }

-- behind some parts the next ones: each with its own mark on memory, which both are false where that of both is
pub entries_more : (c : ReadSetting) (a : ℕ) (ps qs : List FilePart) (k l j : Bool) (m n : Report) (q r s : Report) (x y z : Moment)
    → (j ≡ false → k ≡ false) → (j ≡ false → l ≡ false) → Goes c m x y → Goes c n y z → ByEntries c a ps k q r x y → ByEntries c a qs l r s y z → ByEntries c a (ps ++ qs) j q s x z
entries_more c a ps qs k l j m n q r s x y z first second goes more h g told enough calm still t is one =
    let go = entry_for c a in
    let front = h told (first enough) (λ e. calm (rose_first x.source.faults y.source.faults z.source.faults more.faults e)) (λ e. still (rose_first x.door.frame_faults y.door.frame_faults z.door.frame_faults more.frame_faults e)) t is one in
    let w = outcome_over go front.entered t in
    let back = g told (second enough) (λ e. calm (rose_then x.source.faults y.source.faults z.source.faults goes.faults e)) (λ e. still (rose_then x.door.frame_faults y.door.frame_faults z.door.frame_faults goes.frame_faults e))
    w.state front.outcome.state ((stays_entries c a front.entered t).actors ∙ one) in
    let P : Outcome → Type 0 = λ u. HasOutcome u q s x z in record {
      entered = front.entered ++ back.entered;
      are = are_more c a ps qs front.entered back.entered t front.are back.are;
      outcome = subst P (sym (over_more go front.entered back.entered t)) (just_more w (outcome_over go back.entered w.state) q r s x y z front.outcome back.outcome);
    }

-- a part that was entered for
pub entries_one : (c : ReadSetting) (a : ℕ) (p : FilePart) (out_of_memory : Bool) (q r : Report) (x y : Moment) → Calmly c (entry_for c a p) out_of_memory q r x y → ByEntries c a (p ∷ []) out_of_memory q r x y
entries_one c a p out_of_memory q r x y h told enough calm still s is one = let P : Outcome → Type 0 = λ u. HasOutcome u q r x y in record {
  entered = p ∷ [];
  are = inr ([], refl, refl);
  outcome = subst P (sym (over_one (entry_for c a) p s)) (h told enough calm still s is one);
}

-- parts of a mount that is gone, behind others: entries for them take and change nothing
all_entered : (c : ReadSetting) (a : ℕ) (ps : List FilePart) (s : State) → AreEntered c a ps ps s
all_entered c a [] s = refl
all_entered c a (p ∷ ps) s = inr (ps, refl, all_entered c a ps (entry_for c a p s).state)

gone_entries : (c : ReadSetting) (a : ℕ) (ps : List FilePart) (s : State) → is_gone s c.mount ≡ true → outcome_over (entry_for c a) ps s ≡ unchanged s
gone_entries c a [] s h = refl
gone_entries c a (p ∷ ps) s h =
    ap (λ (w : Outcome). then_outcome w (outcome_over (entry_for c a) ps w.state)) (gone_part c a p.file p.part s h)
    ∙ unchanged_then s (outcome_over (entry_for c a) ps s)
    ∙ gone_entries c a ps s h

pub entries_gone : (c : ReadSetting) (a : ℕ) (ps qs : List FilePart) (out_of_memory : Bool) (q r : Report) (x y : Moment) → ((t : State) → y.door.state ≡ Some t → is_gone t c.mount ≡ true)
    → ByEntries c a ps out_of_memory q r x y → ByEntries c a (ps ++ qs) out_of_memory q r x y
entries_gone c a ps qs out_of_memory q r x y gone h told enough calm still s is one =
    let go = entry_for c a in
    let front = h told enough calm still s is one in
    let w = outcome_over go front.entered s in
    let behind : then_outcome w (outcome_over go qs w.state) ≡ w = ap (then_outcome w) (gone_entries c a qs w.state (gone w.state front.outcome.state)) ∙ then_unchanged w in
    let P : Outcome → Type 0 = λ u. HasOutcome u q r x y in record {
      entered = front.entered ++ qs;
      are = are_more c a ps qs front.entered qs s front.are (all_entered c a qs w.state);
      outcome = subst P (sym (over_more go front.entered qs s ∙ behind)) front.outcome;
    }

-- ---- and where the least interval is at least 1

idle_over : (c : ReadSetting) (a : ℕ) (ps qs : List FilePart) (s : State) → 0 < s.config.min_delta → AreEntered c a ps qs s → outcome_over (entry_for c a) ps s ≡ outcome_over (entry_for c a) qs s
idle_over c a ps [] s some h = ap (λ l. outcome_over (entry_for c a) l s) h
idle_over c a ps (q ∷ qs) s some (inl h) =
    let go = entry_for c a in
    idle_over c a ps qs s some h.1
    ∙ sym (unchanged_then s (outcome_over go qs s))
    ∙ ap (λ (w : Outcome). then_outcome w (outcome_over go qs w.state)) (sym (h.0.idle some))
idle_over c a ps (q ∷ qs) s some (inr h) =
    let go = entry_for c a in
    let same : (go q s).state.config ≡ s.config = (stays_part c a q.file q.part s).config in
    let more : 0 < (go q s).state.config.min_delta = subst (λ (k : Config). 0 < k.min_delta) (sym same) some in
    ap (λ l. outcome_over go l s) h.1 ∙ ap (then_outcome (go q s)) (idle_over c a h.0 qs (go q s).state more h.2)

over_map : (c : ReadSetting) (a file : ℕ) (ps : List ByteRange) (s : State) → outcome_over (entry_for c a) (map (in_file file) ps) s ≡ outcome_over (part_outcome c a file) ps s
over_map c a file [] s = refl
over_map c a file (p ∷ ps) s = ap (then_outcome (part_outcome c a file p s)) (over_map c a file ps (part_outcome c a file p s).state)

-- a read's entries come to just what the read does
pub exactly_entries : (c : ReadSetting) (a : ℕ) (r : Read) (out_of_memory : Bool) (p q : Report) (x y : Moment) → ((s : State) → x.door.state ≡ Some s → s.config ≡ c.config)
    → ByEntries c a (parts_of c.config.range r) out_of_memory p q x y → Exactly c (read_outcome c a r) out_of_memory p q x y
exactly_entries c a r out_of_memory p q x y own h some told enough calm still s is one =
    let e = h told enough calm still s is one in
    let same : s.config ≡ c.config = own s is in
    let delta : 0 < s.config.min_delta = subst (λ (k : Config). 0 < k.min_delta) (sym same) some in
    let ps = parts c.config.range (whole_of r) in
    let go = part_outcome c a r.file in
    let all : outcome_over (entry_for c a) e.entered s ≡ read_outcome c a r s =
    idle_over c a e.entered (parts_of c.config.range r) s delta e.are ∙ over_map c a r.file ps s
    ∙ ap (λ (k : Config). outcome_over go (parts k.range (whole_of r)) s) (sym same) ∙ sym (read_is_parts c a r s) in
    let P : Outcome → Type 0 = λ u. HasOutcome u p q x y in subst P all e.outcome
