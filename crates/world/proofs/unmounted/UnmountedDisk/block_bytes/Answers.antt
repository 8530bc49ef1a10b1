use Rattle.std.proofs.Common.{◌≡◌, ◌∙◌, ℕ, List, Some, length, sym, ap, arith}
use Rattle.std.specs.Option.{option_copied}
use Rattle.xn_model.specs.Images.{block_of}
use Rattle.world.specs.Disks.{image_of, IsResting}
use Rattle.world.proofs.Images.{block_of-home, length-image_of}
use Rattle.world.proofs.Mounting.{never_away}
use Rattle.world.proofs.unmounted.UnmountedDisk.block_bytes.Goals as goal

pub lane-requires : goal.lane-requires
lane-requires g c =
    let within = c.requires in
    let long = length-image_of c.self.inside.lanes c.self.inside.tickets in
    let seen : length (image_of c.self.inside.lanes c.self.inside.tickets) ≡ length c.args.self.now = ap (λ (v : List (List ℕ)). length v) c.self.view_is in
    omega arith

pub unreachable-requires : goal.unreachable-requires
unreachable-requires g c = never_away IsResting (λ none. none) c.self.inside.lanes c.self.invariant.home c.args.block (c.lane.ensures ∙ ap (λ o. Some (option_copied o)) c.in-None.is)

pub returns : goal.returns
returns g c =
    c.bytes.ensures
    ∙ (sym (block_of-home c.self.inside.lanes c.self.inside.tickets c.args.block c.in-Some.lane.now (c.lane.ensures ∙ ap (λ o. Some (option_copied o)) c.in-Some.is))
    ∙ ap (λ (v : List (List ℕ)). block_of v c.args.block) c.self.view_is)
