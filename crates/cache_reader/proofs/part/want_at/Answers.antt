use Rattle.std.proofs.Common.{arith}
use Rattle.blob_parts.specs.Content.{content}
use Rattle.cache_reader.proofs.Wants.{is_want, has_length_of}
use Rattle.cache_reader.proofs.part.want_at.Goals as goal

pub returns-clause-wanted : goal.returns-clause-wanted
returns-clause-wanted g c =
    is_want c.args.config.now c.number.result c.args.file c.region_of-region.result c.region_len-len.result c.args.part.start c.args.part.end c.length.result c.requires.config
    c.number.ensures.small (omega arith) c.requires.part.0 (omega arith) c.length.ensures.most c.requires.part.2 c.region_of-region.ensures.value c.region_len-len.ensures

pub returns-clause-whole : goal.returns-clause-whole
returns-clause-whole g c told =
    let own = rw (← c.number.ensures.value) at (c.length.ensures.whole told) in
    has_length_of c.args.config.now (content g.A.Archive.blobs) c.number.result c.args.file c.region_of-region.result c.region_len-len.result c.length.result
    c.number.ensures.small (omega arith) own c.length.ensures.most c.requires.config c.args.part.start c.region_of-region.ensures.value (omega arith) c.region_len-len.ensures
