use Rattle.std.proofs.Common.{rules, ◌≡◌, [], ◌∷◌, false, Some, Result, Ok, Err, length, refl}
use Rattle.std.specs.Prelude.{◌||◌}
use Rattle.directory_input.specs.Reads.{Read}
use Rattle.cache_reader.specs.Parts.{read_setting}
use Rattle.directory_input.specs.declared.files.BytesError.{BytesError}
use Rattle.cache_reader.specs.Reader.{ReaderView, files_seen}
use Rattle.cache_reader.specs.Onward.{files_kept}
use Rattle.cache_reader.specs.Going.{is_memory, moment}
use Rattle.cache_reader.proofs.Through.{read_calmly, read_through, reported, caused_marked, read_cause}
use Rattle.cache_reader.proofs.reader.Reader.read.Goals as goal

pub returns-in-Ok-clause-goes : goal.returns-in-Ok-clause-goes
returns-in-Ok-clause-goes g c = (
  refl,
  refl,
  refl,
  refl,
  c.read_parts-answer.ensures.stays,
  c.read_parts-answer.ensures.hold,
  read_calmly _ _ c.args.file c.args.at (length c.args.out.now) _ false _ _ _ _ _ _ c.requires.file c.requires.inside c.read_parts-answer.ensures.reached
      (rw c.new-report.ensures at c.in-Ok.ensures.part) c.add.ensures (rw c.new-report.ensures at c.in-Ok.ensures.exact) (rw c.new-report.ensures at c.in-Ok.ensures.entries) refl,
)

pub returns-after-self-clause-goes : goal.returns-after-self-clause-goes
returns-after-self-clause-goes g c =
    let marks : (c.args.self.now.out_of_memory || is_memory c.read_parts-answer.result) ≡ c.if-self.self = search rules in (
      refl,
      refl,
      refl,
      refl,
      c.read_parts-answer.ensures.stays,
      c.read_parts-answer.ensures.hold,
      rw (← marks) (read_through _ _ c.args.file c.args.at (length c.args.out.now) _ _ _ _ _ _ _ _ c.requires.file c.requires.inside c.read_parts-answer.ensures.reached
          (rw c.new-report.ensures at c.read_parts-answer.ensures.part) c.add.ensures (rw c.new-report.ensures at c.read_parts-answer.ensures.exact) (rw c.new-report.ensures at c.read_parts-answer.ensures.entries)),
    )

pub returns-in-Ok-clause-report : goal.returns-in-Ok-clause-report
returns-in-Ok-clause-report g c =
    let read : Read = record { file = c.args.file; at = c.args.at; size = length c.args.out.now } in
    let l = read_setting g.A.Archive.tells g.A.Archive.blobs c.args.self.now.table.now c.args.self.now.setting in
    let x = moment (g.S.BlobSource.view c.args.self.now.source.now) (g.D.CacheDoor.view c.args.self.now.door.now) in
    let y = moment (g.S.BlobSource.view c.read_parts-answer.new.source) (g.D.CacheDoor.view c.read_parts-answer.new.door) in
    let v : ReaderView = record { setting = l; moment = x; total = c.args.self.now.total; out_of_memory = c.args.self.now.out_of_memory } in
    let w : ReaderView = record { setting = l; moment = y; total = c.add.new.self; out_of_memory = c.args.self.now.out_of_memory } in
    reported read (Ok c.read_parts-answer.new.report) c.args.out.now c.read_parts-answer.new.out v w false c.read_parts-answer.new.report
    (rw c.new-report.ensures at c.in-Ok.ensures.part) c.add.ensures c.read_parts-answer.ensures.reached c.read_parts-answer.ensures.filled c.read_parts-answer.ensures.untouched
    (λ m k. (k, c.in-Ok.ensures.all, rw c.new-report.ensures at c.in-Ok.ensures.exact))

pub returns-after-self-clause-report : goal.returns-after-self-clause-report
returns-after-self-clause-report g c =
    let read : Read = record { file = c.args.file; at = c.args.at; size = length c.args.out.now } in
    let l = read_setting g.A.Archive.tells g.A.Archive.blobs c.args.self.now.table.now c.args.self.now.setting in
    let x = moment (g.S.BlobSource.view c.args.self.now.source.now) (g.D.CacheDoor.view c.args.self.now.door.now) in
    let y = moment (g.S.BlobSource.view c.read_parts-answer.new.source) (g.D.CacheDoor.view c.read_parts-answer.new.door) in
    let v : ReaderView = record { setting = l; moment = x; total = c.args.self.now.total; out_of_memory = c.args.self.now.out_of_memory } in
    let w : ReaderView = record { setting = l; moment = y; total = c.add.new.self; out_of_memory = c.if-self.self } in
    reported read (Err c.in-Err.e) c.args.out.now c.read_parts-answer.new.out v w (is_memory c.read_parts-answer.result) c.read_parts-answer.new.report
    (rw c.new-report.ensures at c.read_parts-answer.ensures.part) c.add.ensures c.read_parts-answer.ensures.reached c.read_parts-answer.ensures.filled c.read_parts-answer.ensures.untouched
    (λ m k. tt)

pub returns-after-self-clause-cause : goal.returns-after-self-clause-cause
returns-after-self-clause-cause g c =
    let read : Read = record { file = c.args.file; at = c.args.at; size = length c.args.out.now } in
    let l = read_setting g.A.Archive.tells g.A.Archive.blobs c.args.self.now.table.now c.args.self.now.setting in
    let x = moment (g.S.BlobSource.view c.args.self.now.source.now) (g.D.CacheDoor.view c.args.self.now.door.now) in
    let y = moment (g.S.BlobSource.view c.read_parts-answer.new.source) (g.D.CacheDoor.view c.read_parts-answer.new.door) in
    let v : ReaderView = record { setting = l; moment = x; total = c.args.self.now.total; out_of_memory = c.args.self.now.out_of_memory } in
    let w : ReaderView = record { setting = l; moment = y; total = c.add.new.self; out_of_memory = c.if-self.self } in
    let result : Result (Unit {0}) BytesError = Err c.in-Err.e in
    let marks : c.if-self.self ≡ (c.args.self.now.out_of_memory || is_memory result) = search rules in
    let own = rw c.new-report.ensures at c.read_parts-answer.ensures.part in
    let through = read_through l x.door.actor c.args.file c.args.at (length c.args.out.now) _ (is_memory c.read_parts-answer.result) c.args.self.now.out_of_memory v.total _ w.total x y c.requires.file c.requires.inside c.read_parts-answer.ensures.reached
    own c.add.ensures (rw c.new-report.ensures at c.read_parts-answer.ensures.exact) (rw c.new-report.ensures at c.read_parts-answer.ensures.entries) in
    let same : (c.args.self.now.out_of_memory || is_memory c.read_parts-answer.result) ≡ c.if-self.self = search rules in
    let files = files_kept l l x.door.actor (read ∷ []) v.total w.total v.out_of_memory w.out_of_memory x y refl (g.met.D.CacheDoor.later _ _ c.read_parts-answer.ensures.stays) (rw same at through) in
    read_cause result (files_seen l x v.out_of_memory) (files_seen l y w.out_of_memory) files (caused_marked (Some c.in-Err.e) l x y v.out_of_memory w.out_of_memory c.in-Err.ensures.cause) marks
