use Rattle.std.proofs.Common.{◌≡◌, length, ap, arith}
use Rattle.world.specs.Disks.{image_of}
use Rattle.world.specs.Worlds.{WorldValue}
use Rattle.world.proofs.Sizes.{long}
use Rattle.world.proofs.running.Running.blocks.Goals as goal

pub returns : goal.returns
returns g c =
    let same = long c.self.inside.kernel c.self.inside.tickets c.self.invariant in
    let given = c.len.ensures in
    let seen : length (image_of c.self.inside.kernel.lanes c.self.inside.tickets) ≡ length c.args.self.now.image = ap (λ (v : WorldValue). length v.image) c.self.view_is in
    omega arith
