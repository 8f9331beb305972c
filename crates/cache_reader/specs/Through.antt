-- Counts and places, added up.
use Rattle.std.proofs.Common.{arith, ◌≡◌, ◌<◌, ◌≤◌, ◌+◌, ℕ, List, [], ◌++◌, length, Bool, false, Option, Some, None, refl, ap, sym, ◌∙◌, inl, inr}
use Rattle.std.proofs.lemmas.Bool.{cases_lt}
use Rattle.std.proofs.lemmas.List.{append-nil, length-append}
use Rattle.std.proofs.Math.Nat.{le_refl, le_trans}
use Rattle.byte_text.specs.Counts.{Rose}
use Rattle.blob_parts.specs.Takes.{Took}
use Rattle.blob_parts.specs.Reading.{took_both, rose_first, rose_then}
use Rattle.cache_door.specs.declared.work.Work.{Work}
use Rattle.cache_reader.specs.declared.report.Report.{Report}
use Rattle.cache_reader.specs.Reports.{joined, no_bytes, Grew, Counted}
use Rattle.cache_reader.specs.Bounds.{Bounded, Worked}
use Rattle.cache_reader.specs.Parts.{ReadSetting}
use Rattle.cache_reader.specs.Going.{Moment, Goes, Takes}

pub grew_none : (n : ℕ) → Grew n n 0
grew_none n = record { later = le_refl n; most = omega arith; whole = λ h. omega arith }

pub grew_more : (a b d m n : ℕ) → Grew a b m → Grew b d n → Grew a d (m + n)
grew_more a b d m n h k = record {
  later = le_trans h.later k.later;
  most = omega (arith, h.most, k.most);
  whole = λ less. let first : b ≡ a + m = h.whole (omega (arith, k.later, less)) in omega (arith, first, k.whole less);
}

pub worked_none : (w : Work) → Worked no_bytes w w
worked_none w = record { stored = grew_none w.stored; turned = le_refl w.turned_away; direct = λ h. absurd (omega arith); decays = refl; clears = refl }

some_of : (m n : ℕ) (P : Type 0) → (0 < m → P) → (0 < n → P) → 0 < m + n → P
some_of m n P f g h = elim (cases_lt 0 m) [ inl l ↦ f l | inr l ↦ g (omega (arith, l, h)) ]

pub worked_more : (m n : Report) (a b d : Work) → Worked m a b → Worked n b d → Worked (joined m n) a d
worked_more m n a b d h k = record {
  stored = grew_more a.stored b.stored d.stored m.fetched n.fetched h.stored k.stored;
  turned = le_trans h.turned k.turned;
  direct = some_of m.direct n.direct (Rose a.turned_away d.turned_away) (λ s. rose_first a.turned_away b.turned_away d.turned_away k.turned (h.direct s)) (λ s. rose_then a.turned_away b.turned_away d.turned_away h.turned (k.direct s));
  decays = k.decays ∙ h.decays;
  clears = k.clears ∙ h.clears;
}

pub goes_none : (c : ReadSetting) (x : Moment) → Goes c no_bytes x x
goes_none c x = record { identity = refl; faults = le_refl x.source.faults; frame_faults = le_refl x.door.frame_faults; seen = λ m h. h; unmounted = refl; work = worked_none x.door.work }

pub goes_more : (c : ReadSetting) (m n : Report) (x y z : Moment) → Goes c m x y → Goes c n y z → Goes c (joined m n) x z
goes_more c m n x y z h k = record {
  identity = k.identity ∙ h.identity;
  faults = le_trans h.faults k.faults;
  frame_faults = le_trans h.frame_faults k.frame_faults;
  seen = λ a g. k.seen a (h.seen a g);
  unmounted = k.unmounted ∙ h.unmounted;
  work = worked_more m n x.door.work y.door.work z.door.work h.work k.work;
}

pub counted_none : (a : Report) → Counted a a no_bytes
counted_none a = record { hit = grew_none a.hit; fetched = grew_none a.fetched; direct = grew_none a.direct }

pub counted_more : (a b d m n : Report) → Counted a b m → Counted b d n → Counted a d (joined m n)
counted_more a b d m n h k = record {
  hit = grew_more a.hit b.hit d.hit m.hit n.hit h.hit k.hit;
  fetched = grew_more a.fetched b.fetched d.fetched m.fetched n.fetched h.fetched k.fetched;
  direct = grew_more a.direct b.direct d.direct m.direct n.direct h.direct k.direct;
}

-- nothing is taken
pub took_none : (t : Option (List (ℕ × ℕ × ℕ))) → Took t t []
took_none None = refl
took_none (Some before) = ([], ap Some (sym (append-nil before)), refl)

pub bounded_none : (range : ℕ) (w : Work) → Bounded range w w 0
bounded_none range w s t = (omega arith, omega arith)

pub bounded_more : (range : ℕ) (a b d : Work) (m n : ℕ) → b.stored ≤ d.stored → b.turned_away ≤ d.turned_away → Bounded range a b m → Bounded range b d n → Bounded range a d (m + n)
bounded_more range a b d m n up on h k s t =
    let first = h (omega (arith, s, up)) (omega (arith, t, on)) in
    let second = k s t in
    (omega (arith, first.0, second.0), omega (arith, first.1, second.1))

pub takes_none : (c : ReadSetting) (out_of_memory : Bool) (x : Moment) → Takes c no_bytes out_of_memory x x
takes_none c out_of_memory x = record { places = []; took = took_none x.source.reads; bound = λ a b. bounded_none c.config.range x.door.work; counted = λ a b d. refl }

pub takes_more : (c : ReadSetting) (k l : Bool) (m n : Report) (x y z : Moment) → (l ≡ false → k ≡ false) → Goes c m x y → Goes c n y z → Takes c m k x y → Takes c n l y z → Takes c (joined m n) l x z
takes_more c k l m n x y z marks first second h j = record {
  places = h.places ++ j.places;
  took = took_both x.source.reads y.source.reads z.source.reads h.places j.places h.took j.took;
  bound = λ enough calm. rw (length-append h.places j.places) (bounded_more c.config.range x.door.work y.door.work z.door.work (length h.places) (length j.places) second.work.stored.later second.work.turned
      (h.bound (marks enough) (λ r. calm (rose_first x.source.faults y.source.faults z.source.faults second.faults r)))
      (j.bound enough (λ r. calm (rose_then x.source.faults y.source.faults z.source.faults first.faults r))));
  counted = λ enough calm still.
      let before : length h.places ≡ m.fetched + m.direct = h.counted (marks enough) (λ r. calm (rose_first x.source.faults y.source.faults z.source.faults second.faults r))
      (λ r. still (rose_first x.door.frame_faults y.door.frame_faults z.door.frame_faults second.frame_faults r)) in
      let then : length j.places ≡ n.fetched + n.direct = j.counted enough (λ r. calm (rose_then x.source.faults y.source.faults z.source.faults first.faults r))
      (λ r. still (rose_then x.door.frame_faults y.door.frame_faults z.door.frame_faults first.frame_faults r)) in
      omega (arith, length-append h.places j.places, before, then);
}
