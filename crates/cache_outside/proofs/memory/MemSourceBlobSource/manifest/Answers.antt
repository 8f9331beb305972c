use Rattle.std.proofs.Common.{◌≤◌, length, arith, sym}
use Rattle.cache_outside.specs.Listing.{manifests}
use Rattle.cache_outside.proofs.Blobs.{number_below}
use Rattle.cache_outside.proofs.memory.MemSourceBlobSource.manifest.Goals as goal

pub overflow_cast-result : goal.overflow_cast-result
overflow_cast-result g c =
    let below = number_below c.args.name.now c.args.self.now.blobs c.in-Some.k (sym c.in-Some.ensures) in
    let few : length (manifests c.args.self.now.blobs) ≤ 65536 = c.args.self.now.few_manifests in
    omega (arith, below, few)

pub returns-in-Some-clause-small : goal.returns-in-Some-clause-small
returns-in-Some-clause-small g c =
    let below = number_below c.args.name.now c.args.self.now.blobs c.in-Some.k (sym c.in-Some.ensures) in
    let few : length (manifests c.args.self.now.blobs) ≤ 65536 = c.args.self.now.few_manifests in
    omega (arith, below, few)
