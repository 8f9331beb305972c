use Rattle.std.proofs.Common.{arith}
use Rattle.blob_parts.specs.Content.{content}
use Rattle.cache_reader.proofs.Wants.{is_want, has_length_of}
use Rattle.cache_checks.proofs.steps.want_of.Goals as goal

pub returns-clause-wanted : goal.returns-clause-wanted
returns-clause-wanted g c =
    is_want c.args.config.now c.number-manifest.result 0 c.region_of-region.result c.region_len-len.result c.args.part.start c.args.part.end c.length-length.result
    c.requires.config c.number-manifest.ensures.small (omega arith) (omega arith) (omega arith) c.length-length.ensures.most (omega arith) c.region_of-region.ensures.value c.region_len-len.ensures

pub returns-clause-whole : goal.returns-clause-whole
returns-clause-whole g c told =
    let own = rw (← c.number-manifest.ensures.value) at (c.length-length.ensures.whole told) in
    has_length_of c.args.config.now (content g.A.Archive.blobs) c.number-manifest.result 0 c.region_of-region.result c.region_len-len.result c.length-length.result
    c.number-manifest.ensures.small (omega arith) own c.length-length.ensures.most c.requires.config c.args.part.start c.region_of-region.ensures.value (omega arith) c.region_len-len.ensures
