use Rattle.std.proofs.Common.{◌≡◌, ◌<◌, ◌∙◌, length, sym, ap, arith}
use Rattle.std.specs.Option.{option_copied}
use Rattle.disk.specs.Mem.{MemoryLane}
use Rattle.xn_model.specs.Images.{block_of}
use Rattle.xn_kernel.specs.Kernels.{TicketValue}
use Rattle.world.specs.Disks.{image_of}
use Rattle.world.specs.Worlds.{WorldValue}
use Rattle.world.proofs.Images.{block_of-home, block_of-away}
use Rattle.world.proofs.Places.{full_get, empty_get}
use Rattle.world.proofs.Sizes.{few, long, nowhere}
use Rattle.world.proofs.running.Running.block_bytes.Goals as goal

pub overflow_cast-block : goal.overflow_cast-block
overflow_cast-block g c =
    let size = few c.self.inside.kernel c.self.inside.tickets c.self.invariant in
    let same = long c.self.inside.kernel c.self.inside.tickets c.self.invariant in
    let seen : length (image_of c.self.inside.kernel.lanes c.self.inside.tickets) ≡ length c.args.self.now.image = ap (λ (v : WorldValue). length v.image) c.self.view_is in
    let within = c.requires in
    omega arith

pub unreachable-requires : goal.unreachable-requires
unreachable-requires g c =
    let same = long c.self.inside.kernel c.self.inside.tickets c.self.invariant in
    let seen : length (image_of c.self.inside.kernel.lanes c.self.inside.tickets) ≡ length c.args.self.now.image = ap (λ (v : WorldValue). length v.image) c.self.view_is in
    let asked = c.requires in
    let within : c.args.block < length c.self.inside.tickets = omega arith in
    let home = sym c.lane.ensures ∙ ap option_copied c.in-None.is in
    let ticket = sym c.get.ensures ∙ ap option_copied c.in-None-get.is in
    nowhere c.self.inside.kernel c.self.inside.tickets c.self.invariant c.args.block within home ticket

pub returns-in-Some : goal.returns-in-Some
returns-in-Some g c =
    let home = sym c.lane.ensures ∙ ap option_copied c.in-Some.is in
    c.bytes.ensures ∙ (sym (block_of-home c.self.inside.kernel.lanes c.self.inside.tickets c.args.block c.in-Some.lane.now (full_get c.self.inside.kernel.lanes c.args.block c.in-Some.lane.now home))
    ∙ ap (λ (v : WorldValue). block_of v.image c.args.block) c.self.view_is)

pub returns-in-Some-get : goal.returns-in-Some-get
returns-in-Some-get g c =
    let same = long c.self.inside.kernel c.self.inside.tickets c.self.invariant in
    let seen : length (image_of c.self.inside.kernel.lanes c.self.inside.tickets) ≡ length c.args.self.now.image = ap (λ (v : WorldValue). length v.image) c.self.view_is in
    let asked = c.requires in
    let count = c.self.invariant.count in
    let within : c.args.block < length c.self.inside.tickets = omega arith in
    let home = sym c.lane.ensures ∙ ap option_copied c.in-None.is in
    let away = empty_get c.self.inside.kernel.lanes c.args.block home (omega arith) in
    let has = sym c.get.ensures ∙ ap option_copied c.in-Some-get.is in
    c.bytes-in-Some-get.ensures ∙ (ap (λ (l : MemoryLane). l.bytes) (c.lane-in-Some-get.ensures ∙ ap (λ (t : TicketValue MemoryLane). t.lane) c.ticket.ensures)
    ∙ (sym (block_of-away c.self.inside.kernel.lanes c.self.inside.tickets c.args.block c.in-Some-get.ticket.now away has) ∙ ap (λ (v : WorldValue). block_of v.image c.args.block) c.self.view_is))
