use Rattle.blob_parts.specs.Content.{content}
use Rattle.cache_table.specs.Keys.{about_of}
use Rattle.cache_table.proofs.KeptBetween as between
use Rattle.cache_table.proofs.between.kept_between.Goals as goal

pub returns : goal.returns
returns g c = between.kept_between g.A.Archive.tells (content g.A.Archive.blobs) (about_of g.F.Frame.view)
