-- Reads behind reads.
use Rattle.std.proofs.Common.{arith, ◌≡◌, ℕ, List, [], ◌++◌, Bool, length, ap, sym, subst, ◌∙◌}
use Rattle.std.specs.Prelude.{IsTrue, ◌&&◌}
use Rattle.std.proofs.lemmas.Grind.{flat_map-append}
use Rattle.std.proofs.lemmas.List.Sums.{sum_by-append}
use Rattle.directory_input.specs.Reads.{Read}
use Rattle.cache_outside.specs.Listing.{Listing}
use Rattle.blob_parts.specs.Tables.{TableParts, file_length}
use Rattle.cache_door.specs.Doors.{DoorLater}
use Rattle.directory_input.specs.Files.{FilesLater}
use Rattle.blob_parts.specs.Content.{content}
use Rattle.blob_parts.specs.Reading.{unmarked, allowed_more}
use Rattle.cache_reader.specs.declared.part.Setting.{Setting}
use Rattle.cache_reader.specs.declared.report.Report.{Report}
use Rattle.cache_reader.specs.Reports.{joined, no_bytes}
use Rattle.cache_reader.specs.Parts.{ReadSetting, read_setting}
use Rattle.cache_reader.specs.Going.{Moment}
use Rattle.cache_reader.specs.Alone.{reads_parts, parts_of, ByEntries}
use Rattle.cache_reader.specs.Reader.{ReadsThrough, files_seen}
use Rattle.cache_reader.specs.Through.{counted_none, counted_more, goes_none, goes_more, takes_none, takes_more}
use Rattle.cache_reader.specs.Runs.{exactly_none, exactly_more, entries_none, entries_more}

pub no_reads : (c : ReadSetting) (a : ℕ) (total : Report) (out_of_memory : Bool) (x : Moment) → ReadsThrough c a [] total total out_of_memory out_of_memory x x
no_reads c a total out_of_memory x = record {
  allowed = tt;
  marked = λ h. h;
  counts = no_bytes;
  total = counted_none total;
  most = omega arith;
  goes = goes_none c x;
  takes = λ told. takes_none c out_of_memory x;
  exact = exactly_none c a out_of_memory total x;
  entries = entries_none c a out_of_memory total x;
}

more_reads : (c : ReadSetting) (a : ℕ) (rs ss : List Read) (q r s : Report) (u v w : Bool) (x y z : Moment)
    → ReadsThrough c a rs q r u v x y → ReadsThrough c a ss r s v w y z → ReadsThrough c a (rs ++ ss) q s u w x z
more_reads c a rs ss q r s u v w x y z h k =
    let marks = unmarked v w k.marked in
    let split = flat_map-append (parts_of c.config.range) rs ss in record {
      allowed = allowed_more c.table rs ss h.allowed k.allowed;
      marked = λ m. k.marked (h.marked m);
      counts = joined h.counts k.counts;
      total = counted_more q r s h.counts k.counts h.total k.total;
      most = omega (arith, h.most, k.most, sum_by-append (λ (r : Read). r.size) rs ss);
      goes = goes_more c h.counts k.counts x y z h.goes k.goes;
      takes = λ told. takes_more c v w h.counts k.counts x y z marks h.goes k.goes (h.takes told) (k.takes told);
      exact = exactly_more c a rs ss v w h.counts k.counts q r s x y z marks h.goes k.goes h.exact k.exact;
      entries = subst (λ ps. ByEntries c a ps w q s x z) (sym split)
          (entries_more c a (reads_parts c.config.range rs) (reads_parts c.config.range ss) v w w h.counts k.counts q r s x y z marks (λ e. e) h.goes k.goes h.entries k.entries);
    }

-- the same, where the later reads are of a setting and an actor that are the same ones
pub more_of_same : (c d : ReadSetting) (a b : ℕ) (rs ss : List Read) (q r s : Report) (u v w : Bool) (x y z : Moment)
    → d ≡ c → b ≡ a → ReadsThrough c a rs q r u v x y → ReadsThrough d b ss r s v w y z → ReadsThrough c a (rs ++ ss) q s u w x z
more_of_same c d a b rs ss q r s u v w x y z same actor h k =
    let first : ReadsThrough c b ss r s v w y z = subst (λ e. ReadsThrough e b ss r s v w y z) same k in
    more_reads c a rs ss q r s u v w x y z h (subst (λ n. ReadsThrough c n ss r s v w y z) actor first)

pub same_setting : (tells : Bool) (blobs : Listing) (table other : TableParts) (own next : Setting) → other ≡ table → next ≡ own → read_setting tells blobs other next ≡ read_setting tells blobs table own
same_setting tells blobs table other own next same kept = ap (λ t. read_setting tells blobs t next) same ∙ ap (λ k. read_setting tells blobs table k) kept

-- reads change no files, and lower no count or mark
pub files_kept : (c d : ReadSetting) (a : ℕ) (rs : List Read) (q r : Report) (v w : Bool) (x y : Moment) → d ≡ c → DoorLater x.door y.door → ReadsThrough c a rs q r v w x y → FilesLater (files_seen c x v) (files_seen d y w)
files_kept c d a rs q r v w x y same door h = record {
  count = ap (λ (k : ReadSetting). length k.table.files) same;
  lengths = ap (λ (k : ReadSetting). file_length k.table) same;
  tells = ap (λ (k : ReadSetting). k.tells && y.door.frames_tell) same ∙ ap (λ b. c.tells && b) door.frames_tell;
  bytes = ap (λ (k : ReadSetting). content k.blobs k.table.number) same;
  mount = ap (λ (k : ReadSetting). k.mount) same;
  faults = h.goes.faults;
  gone = λ seen. subst (λ (k : ReadSetting). IsTrue (y.door.seen_gone k.mount)) (sym same) (h.goes.seen c.mount seen);
  memory = h.marked;
}
