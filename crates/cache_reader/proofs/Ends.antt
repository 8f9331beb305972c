-- How a part ends.
use Rattle.std.proofs.Common.{zero-add, arith, ◌≡◌, ◌<◌, ◌≤◌, ◌+◌, ◌-◌, ◌*◌, ℕ, List, [], ◌++◌, length, take, drop, Bool, true, false, refl, ap, sym, subst, ◌∙◌, min}
use Rattle.std.specs.Prelude.{IsTrue}
use Rattle.std.proofs.Math.Nat.{mul-le-mul_left}
use Rattle.std.proofs.lemmas.List.{length-append}
use Rattle.byte_text.specs.Counts.{Rose}
use Rattle.blob_parts.specs.Takes.{Took}
use Rattle.cache_door.specs.declared.work.Work.{Work}
use Rattle.cache_reader.specs.declared.report.Report.{Report}
use Rattle.cache_reader.specs.Reports.{joined, no_bytes, copied_bytes, fetched_bytes, direct_bytes, Grew, Counted}
use Rattle.cache_reader.specs.Bounds.{Bounded, Worked}
use Rattle.cache_reader.specs.Parts.{ReadSetting}
use Rattle.cache_reader.specs.Going.{Moment, Goes}
use Rattle.cache_reader.specs.Filling.{Partly, Whole, PartGoes, given}
use Rattle.blob_parts.specs.Reading.{took_both}
use Rattle.cache_reader.proofs.Joins.{goes_more, goes_none, counted_more, counted_none, took_none, bounded_more, rose_first, rose_then}
use Rattle.std.proofs.lemmas.List.{drop-drop, take-take, drop-take}
use Rattle.blob_parts.specs.Content.{slice_of}
use Rattle.cache_door.specs.Doors.{Works, turned_away_once}

double : (range k : ℕ) → 2 * range * (k + 1) ≡ 2 * range * k + 2 * range
double range k = grind arith

-- turned away once or more: at most the range was taken and not stored, and at most the range was read directly
pub away_bound : (range : ℕ) (old new : Work) (n count m : ℕ) → Rose old.turned_away new.turned_away → Grew old.stored new.stored count → count ≤ n → n ≤ range → m ≤ range → Bounded range old new (n + m)
away_bound range old new n count m a grew low most direct s t =
    let up : old.turned_away + 1 ≤ new.turned_away = omega (arith, a, t) in
    let more : 2 * range * (old.turned_away + 1) ≤ 2 * range * new.turned_away = mul-le-mul_left (2 * range) up in
    (omega (arith, grew.most, low), omega (arith, grew.later, more, double range old.turned_away, most, direct))

-- not turned away, what was taken was stored
pub same_bound : (range : ℕ) (old new : Work) (n : ℕ) → old.turned_away ≤ new.turned_away → Grew old.stored new.stored n → Bounded range old new n
same_bound range old new n a grew s t =
    let more : 2 * range * old.turned_away ≤ 2 * range * new.turned_away = mul-le-mul_left (2 * range) a in
    (grew.most, omega (arith, grew.whole s, more))

-- nothing was done, and refused
pub part_none : (c : ReadSetting) (out_of_memory : Bool) (r : Report) (x y : Moment) → Goes c no_bytes x y → y.source.reads ≡ x.source.reads → PartGoes c 0 out_of_memory r r x y
part_none c out_of_memory r x y goes same = record {
  counts = no_bytes;
  report = counted_none r;
  all = refl;
  goes = goes;
  takes = λ told. record { places = []; took = subst (λ t. Took x.source.reads t []) (sym same) (took_none x.source.reads); bound = λ a b. same_bound c.config.range x.door.work y.door.work 0 goes.work.turned goes.work.stored; counted = λ a b d. refl };
}

-- the part was copied
pub part_copied : (c : ReadSetting) (size gap : ℕ) (out_of_memory : Bool) (q r s : Report) (x y : Moment) → Whole c gap q r x y → Counted r s (copied_bytes size) → PartGoes c size out_of_memory q s x y
part_copied c size gap out_of_memory q r s x y h copied = record {
  counts = joined (fetched_bytes gap) (copied_bytes size);
  report = counted_more q r s (fetched_bytes gap) (copied_bytes size) h.report copied;
  all = omega arith;
  goes = record {
    identity = h.goes.identity;
    faults = h.goes.faults;
    frame_faults = h.goes.frame_faults;
    seen = h.goes.seen;
    unmounted = h.goes.unmounted;
    work = record { stored = subst (λ n. Grew x.door.work.stored y.door.work.stored n) (omega arith) h.goes.work.stored; turned = h.goes.work.turned; direct = λ some. absurd (omega (arith, some)); decays = h.goes.work.decays; clears = h.goes.work.clears };
  };
  takes = λ told. let took = h.took told in record {
    places = took.0;
    took = took.1;
    bound = λ a b. subst (λ n. Bounded c.config.range x.door.work y.door.work n) (sym took.2) (same_bound c.config.range x.door.work y.door.work gap h.goes.work.turned h.goes.work.stored);
    counted = λ a b d. omega (arith, took.2);
  };
}

-- the source refused a piece
pub part_refused : (c : ReadSetting) (gap : ℕ) (lacks out_of_memory : Bool) (q r : Report) (x y : Moment) → Partly c gap lacks q r x y → (out_of_memory ≡ false → Rose x.source.faults y.source.faults) → PartGoes c 0 out_of_memory q r x y
part_refused c gap lacks out_of_memory q r x y h cause = record {
  counts = fetched_bytes h.count;
  report = h.report;
  all = refl;
  goes = h.goes;
  takes = λ told. let took = h.took told in record { places = took.0; took = took.1; bound = λ enough calm. absurd (calm (cause enough)); counted = λ enough calm still. absurd (calm (cause enough)) };
}

-- the door turned the caller away, and the part was read past the cache, or that was refused
pub part_direct : (c : ReadSetting) (size gap range : ℕ) (answered out_of_memory : Bool) (q r s : Report) (x y z : Moment) → gap ≤ c.config.range → size ≤ c.config.range
    → Partly c gap false q r x y → Rose x.door.work.turned_away y.door.work.turned_away → z.door.work ≡ y.door.work → Goes c no_bytes y z
    → (answered ≡ true → Counted r s (direct_bytes size)) → (answered ≡ false → s ≡ r) → (answered ≡ false → out_of_memory ≡ false → Rose y.source.faults z.source.faults)
    → (IsTrue c.tells → (ps : List (ℕ × ℕ)) × Took y.source.reads z.source.reads ps × (length ps ≤ size) × (answered ≡ true → length ps ≡ size)) → PartGoes c (given answered size) out_of_memory q s x z
part_direct c size gap range true out_of_memory q r s x y z fits short h away same later count un cause took = record {
  counts = joined (fetched_bytes h.count) (direct_bytes size);
  report = counted_more q r s (fetched_bytes h.count) (direct_bytes size) h.report (count refl);
  all = omega arith;
  goes = record {
    identity = later.identity ∙ h.goes.identity;
    faults = omega (arith, h.goes.faults, later.faults);
    frame_faults = omega (arith, h.goes.frame_faults, later.frame_faults);
    seen = λ m g. later.seen m (h.goes.seen m g);
    unmounted = later.unmounted ∙ h.goes.unmounted;
    work = subst (λ (w : Work). Worked (joined (fetched_bytes h.count) (direct_bytes size)) x.door.work w) (sym same) (record { stored = subst (λ n. Grew x.door.work.stored y.door.work.stored n) (omega arith) h.goes.work.stored; turned = h.goes.work.turned; direct = λ some. away; decays = h.goes.work.decays; clears = h.goes.work.clears });
  };
  takes = λ told.
      let first = h.took told in
      let more = took told in
      record {
        places = first.0 ++ more.0;
        took = took_both x.source.reads y.source.reads z.source.reads first.0 more.0 first.1 more.1;
        bound = λ enough calm. rw (length-append first.0 more.0) (subst (λ (w : Work). Bounded c.config.range x.door.work w (length first.0 + length more.0)) (sym same)
            (away_bound c.config.range x.door.work y.door.work (length first.0) h.count (length more.0) away h.goes.work.stored first.2 (omega (arith, first.3, fits)) (omega (arith, more.2, short))));
        counted = λ enough calm still.
            let filled : length first.0 ≡ h.count = first.4 refl (λ r. calm (rose_first x.source.faults y.source.faults z.source.faults later.faults r)) (λ r. still (rose_first x.door.frame_faults y.door.frame_faults z.door.frame_faults later.frame_faults r)) in
            omega (arith, length-append first.0 more.0, filled, more.3 refl);
      };
}
part_direct c size gap range false out_of_memory q r s x y z fits short h away same later count un cause took = record {
  counts = fetched_bytes h.count;
  report = subst (λ (o : Report). Counted q o (fetched_bytes h.count)) (sym (un refl)) h.report;
  all = refl;
  goes = record {
    identity = later.identity ∙ h.goes.identity;
    faults = omega (arith, h.goes.faults, later.faults);
    frame_faults = omega (arith, h.goes.frame_faults, later.frame_faults);
    seen = λ m g. later.seen m (h.goes.seen m g);
    unmounted = later.unmounted ∙ h.goes.unmounted;
    work = subst (λ (w : Work). Worked (fetched_bytes h.count) x.door.work w) (sym same) h.goes.work;
  };
  takes = λ told.
      let first = h.took told in
      let more = took told in
      record { places = first.0 ++ more.0; took = took_both x.source.reads y.source.reads z.source.reads first.0 more.0 first.1 more.1; bound = λ enough calm. absurd (calm (omega (arith, cause refl enough, h.goes.faults))); counted = λ enough calm still. absurd (calm (omega (arith, cause refl enough, h.goes.faults))) };
}

-- nothing is fetched yet
pub partly_none : (c : ReadSetting) (out_of_memory : Bool) (r : Report) (x : Moment) → Partly c 0 out_of_memory r r x x
partly_none c out_of_memory r x = record { count = 0; most = omega arith; goes = goes_none c x; report = counted_none r; took = λ told. ([], took_none x.source.reads, omega arith, omega arith, λ a b d. refl) }

pub whole_none : (c : ReadSetting) (r : Report) (x : Moment) → Whole c 0 r r x x
whole_none c r x = record { goes = goes_none c x; report = counted_none r; took = λ told. ([], took_none x.source.reads, refl) }

goes_then : (c : ReadSetting) (n : ℕ) (x y z : Moment) → Goes c (fetched_bytes n) x y → Goes c no_bytes y z → Goes c (fetched_bytes n) x z
goes_then c n x y z h k = subst (λ m. Goes c (fetched_bytes m) x z) (omega arith) (goes_more c (fetched_bytes n) no_bytes x y z h k)

-- and then the door did no work
pub partly_then : (c : ReadSetting) (gap : ℕ) (out_of_memory : Bool) (q r : Report) (x y z : Moment) → Partly c gap out_of_memory q r x y → Goes c no_bytes y z → z.source.reads ≡ y.source.reads → Partly c gap out_of_memory q r x z
partly_then c gap out_of_memory q r x y z h k same = record {
  count = h.count;
  most = h.most;
  goes = goes_then c h.count x y z h.goes k;
  report = h.report;
  took = λ told. let t = h.took told in (
    t.0,
    subst (λ u. Took x.source.reads u t.0) (sym same) t.1,
    t.2,
    t.3,
    λ enough calm still. t.4 enough (λ r. calm (rose_first x.source.faults y.source.faults z.source.faults k.faults r)) (λ r. still (rose_first x.door.frame_faults y.door.frame_faults z.door.frame_faults k.frame_faults r)),
  );
}

pub whole_then : (c : ReadSetting) (gap : ℕ) (q r : Report) (x y z : Moment) → Whole c gap q r x y → Goes c no_bytes y z → z.source.reads ≡ y.source.reads → Whole c gap q r x z
whole_then c gap q r x y z h k same = record {
  goes = goes_then c gap x y z h.goes k;
  report = h.report;
  took = λ told. let t = h.took told in (t.0, subst (λ u. Took x.source.reads u t.0) (sym same) t.1, t.2);
}

none_joined : (m : Report) → joined no_bytes m ≡ m
none_joined m = rw (zero-add m.hit, zero-add m.fetched, zero-add m.direct)

-- the same, behind a call of the door that was no work of a reader
pub part_after : (c : ReadSetting) (size : ℕ) (out_of_memory : Bool) (q r : Report) (x y z : Moment) → Goes c no_bytes x y → y.source.reads ≡ x.source.reads → PartGoes c size out_of_memory q r y z → PartGoes c size out_of_memory q r x z
part_after c size out_of_memory q r x y z first same h = record {
  counts = h.counts;
  report = h.report;
  all = h.all;
  goes = subst (λ (m : Report). Goes c m x z) (none_joined h.counts) (goes_more c no_bytes h.counts x y z first h.goes);
  takes = λ told. let t = h.takes told in record {
    places = t.places;
    took = subst (λ u. Took u z.source.reads t.places) same t.took;
    bound = λ enough calm. subst (λ n. Bounded c.config.range x.door.work z.door.work n) (zero-add (length t.places)) (bounded_more c.config.range x.door.work y.door.work z.door.work 0 (length t.places) h.goes.work.stored.later h.goes.work.turned
        (same_bound c.config.range x.door.work y.door.work 0 first.work.turned first.work.stored) (t.bound enough (λ r. calm (rose_then x.source.faults y.source.faults z.source.faults first.faults r))));
    counted = λ enough calm still. t.counted enough (λ r. calm (rose_then x.source.faults y.source.faults z.source.faults first.faults r)) (λ r. still (rose_then x.door.frame_faults y.door.frame_faults z.door.frame_faults first.frame_faults r));
  };
}

-- the door turned the caller away in its entry
pub worked_away : (a b : Work) → Works a b turned_away_once → Worked no_bytes a b
worked_away a b h =
    let sv : b.stored ≡ min (a.stored + 0) 18446744073709551615 = h.stored.value in
    let dv : b.decays ≡ min (a.decays + 0) 18446744073709551615 = h.decays.value in
    let cv : b.clears ≡ min (a.clears + 0) 18446744073709551615 = h.clears.value in record {
      stored = record { later = h.stored.later; most = omega (arith, sv); whole = λ less. let few : b.stored < 18446744073709551615 = less in omega (arith, sv, few) };
      turned = h.turned_away.later;
      direct = λ some. absurd (omega arith);
      decays = omega (arith, dv, h.decays.later);
      clears = omega (arith, cv, h.clears.later);
    }

pub rose_away : (a b : Work) → Works a b turned_away_once → Rose a.turned_away b.turned_away
rose_away a b h = let v : b.turned_away ≡ min (a.turned_away + 1) 18446744073709551615 = h.turned_away.value in omega (arith, v)

pub partly_of : (c : ReadSetting) (r : Report) (x y : Moment) → Goes c no_bytes x y → y.source.reads ≡ x.source.reads → Partly c 0 false r r x y
partly_of c r x y goes same = record { count = 0; most = omega arith; goes = goes; report = counted_none r; took = λ told. ([], subst (λ t. Took x.source.reads t []) (sym same) (took_none x.source.reads), omega arith, omega arith, λ a b d. refl) }

-- some bytes of some bytes
pub slice_slice : {X : Type 0} (xs : List X) (at size from n : ℕ) → from + n ≤ size → slice_of (slice_of xs at size) from n ≡ slice_of xs (at + from) n
slice_slice xs at size from n h =
    let split : size ≡ from + (size - from) = omega (arith, h) in
    ap (λ s. take n (drop from (take s (drop at xs)))) split
    ∙ ap (take n) (drop-take from (size - from) (drop at xs))
    ∙ take-take n (size - from) (drop from (drop at xs)) (omega (arith, h))
    ∙ ap (take n) (drop-drop from at xs)

-- the bytes of a region's part, as bytes of the file
pub region_slice : (files : ℕ → ℕ → List ℕ) (m f own_m own_f part size start end base at n : ℕ) → own_m ≡ m → own_f ≡ f → base ≡ part * size → at ≡ base + start → n ≡ end - start → start < end → end ≤ size
    → slice_of (slice_of (files own_m own_f) (part * size) size) start (end - start) ≡ slice_of (files m f) at n
region_slice files m f own_m own_f part size start end base at n a b d e g less most =
    let place : part * size + start ≡ at = omega (arith, d, e) in
    slice_slice (files own_m own_f) (part * size) size start (end - start) (omega (arith, less, most)) ∙ cc (place, a, b, g)
