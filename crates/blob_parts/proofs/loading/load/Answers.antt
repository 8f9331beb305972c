use Rattle.std.proofs.Common.{◌≤◌, ◌∙◌, sym, arith}
use Rattle.blob_parts.specs.Loads.{asked}
use Rattle.blob_parts.proofs.Named.{place_below}
use Rattle.blob_parts.proofs.Loaded.{long_refused, judged, judged_takes, took_asked}
use Rattle.blob_parts.proofs.loading.load.Goals as goal

pub returns-then-found-gt-LONGEST-clause-loads : goal.returns-then-found-gt-LONGEST-clause-loads
returns-then-found-gt-LONGEST-clause-loads g c tells =
    let found = c.in_ok-found.ensures in (
      c.in_ok-found.found.number,
      found.number tells,
      long_refused c.args.name.now g.A.Archive.blobs c.in_ok-found.found.number c.in_ok-found.found.blob c.in_ok-found.found.size
          (found.number tells) (found.blob tells) (found.size tells) c.if-found-gt-LONGEST.true,
    )

pub whole_blob-requires-clause-whole : goal.whole_blob-requires-clause-whole
whole_blob-requires-clause-whole g c tells =
    let found = c.in_ok-found.ensures in
    (place_below c.args.name.now g.A.Archive.blobs c.in_ok-found.found.blob (found.blob tells), sym (found.size tells))

pub returns-clause-loads : goal.returns-clause-loads
returns-clause-loads g c tells =
    let found = c.in_ok-found.ensures in
    judged c.args.name.now g.A.Archive.blobs c.in_ok-found.found.number c.in_ok-found.found.blob c.deref.result.now c.judge.result
    (found.number tells) (found.blob tells) (c.deref.ensures.value ∙ c.in-Ok.ensures.bytes tells) c.judge.ensures.judged

pub returns-clause-reads : goal.returns-clause-reads
returns-clause-reads g c tells =
    let found = c.in_ok-found.ensures in
    let short : c.in_ok-found.found.size ≤ 16777216 = omega (arith, c.if-found-gt-LONGEST.false) in
    judged_takes _ _ (asked g.A.Archive.blobs c.args.name.now) c.in_ok-found.found.number c.judge.result _
    (took_asked _ _ _ c.args.name.now g.A.Archive.blobs c.in_ok-found.found.blob c.in_ok-found.found.size found.reads (found.blob tells) (found.size tells) short c.in-Ok.ensures.reads)
    c.judge.ensures.judged
