-- Steps of reads, one behind another.
use Rattle.std.proofs.Common.{arith, ◌≡◌, ◌<◌, ◌+◌, ℕ, refl, min}
use Rattle.std.proofs.Math.Nat.{le_refl}
use Rattle.cache_door.specs.declared.work.Work.{Work}
use Rattle.cache_outside.specs.Sources.{SourceView}
use Rattle.blob_parts.specs.Takes.{SourceLater}
use Rattle.cache_door.specs.Doors.{DoorView, DoorLater, Works, no_work}
use Rattle.cache_reader.specs.declared.report.Report.{Report}
use Rattle.cache_reader.specs.Reports.{no_bytes, Grew, Counted}
use Rattle.cache_reader.specs.Bounds.{Worked}
use Rattle.cache_reader.specs.Parts.{ReadSetting}
use Rattle.cache_reader.specs.Going.{moment, Goes}
pub use Rattle.blob_parts.specs.Reading.{rose_first, rose_then}
pub use Rattle.cache_reader.specs.Through.{grew_none, grew_more, worked_none, worked_more, goes_none, goes_more, counted_none, counted_more, took_none, bounded_none, bounded_more, takes_none, takes_more}

pub grew_through : (a b r n : ℕ) → Grew a b r → Grew 0 r n → Grew a b n
grew_through a b r n h k = record {
  later = h.later;
  most = omega (arith, h.most, k.most);
  whole = λ less. let own : b ≡ a + r = h.whole less in let all : r ≡ 0 + n = k.whole (omega (arith, own, less)) in omega (arith, own, all);
}

-- what a report counted from nothing is added
pub counted_through : (a b r n : Report) → Counted a b r → Counted no_bytes r n → Counted a b n
counted_through a b r n h k = record {
  hit = grew_through a.hit b.hit r.hit n.hit h.hit k.hit;
  fetched = grew_through a.fetched b.fetched r.fetched n.fetched h.fetched k.fetched;
  direct = grew_through a.direct b.direct r.direct n.direct h.direct k.direct;
}

-- a call of the door that is no work
pub worked_idle : (a b : Work) → Works a b no_work → Worked no_bytes a b
worked_idle a b h =
    let sv : b.stored ≡ min (a.stored + 0) 18446744073709551615 = h.stored.value in
    let dv : b.decays ≡ min (a.decays + 0) 18446744073709551615 = h.decays.value in
    let cv : b.clears ≡ min (a.clears + 0) 18446744073709551615 = h.clears.value in record {
      stored = record { later = h.stored.later; most = omega (arith, sv); whole = λ less. let few : b.stored < 18446744073709551615 = less in omega (arith, sv, few) };
      turned = h.turned_away.later;
      direct = λ some. absurd (omega arith);
      decays = omega (arith, dv, h.decays.later);
      clears = omega (arith, cv, h.clears.later);
    }

-- a call of the door alone
pub door_step : (c : ReadSetting) (s : SourceView) (d e : DoorView) → DoorLater d e → e.unmounted ≡ d.unmounted → Worked no_bytes d.work e.work → Goes c no_bytes (moment s d) (moment s e)
door_step c s d e later same work = record { identity = refl; faults = le_refl s.faults; frame_faults = later.faults; seen = later.seen; unmounted = same; work = work }

-- a call of the source alone
pub source_step : (c : ReadSetting) (s t : SourceView) (d : DoorView) (fault : Type 0) → SourceLater s t fault → Goes c no_bytes (moment s d) (moment t d)
source_step c s t d fault later = record { identity = later.identity; faults = later.later; frame_faults = le_refl d.frame_faults; seen = λ m h. h; unmounted = refl; work = worked_none d.work }
