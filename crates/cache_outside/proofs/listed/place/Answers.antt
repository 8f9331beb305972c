use Rattle.std.proofs.Common.{rules}
use Rattle.byte_text.proofs.Lists.{found_here, found_later}
use Rattle.cache_outside.specs.Listing.{is_named}
use Rattle.cache_outside.proofs.listed.place.Goals as goal

pub returns-then-eq : goal.returns-then-eq
returns-then-eq c =
    found_here c.args.blobs.now c.loop-i.i _ c.get.ensures (is_named c.args.name.now) _ _ c.loop-i.invariant (search rules)

pub loop-i-preserved : goal.loop-i-preserved
loop-i-preserved c =
    found_later c.args.blobs.now c.loop-i.i _ c.get.ensures (is_named c.args.name.now) c.loop-i.i _ c.loop-i.invariant (search rules)
