use Rattle.std.proofs.Common.{◌≡◌, ◌∙◌, None, length, replicate, sym, ap, subst}
use Rattle.std.specs.Prelude.{OnOk}
use Rattle.std.specs.Io.KnownBytes.{Appends}
use Rattle.xn_model.specs.Images.{joined}
use Rattle.world.specs.Disks.{image_of}
use Rattle.world.specs.Worlds.{WorldValue}
use Rattle.world.proofs.Returns.{Lanes, none_missing}
use Rattle.world.proofs.running.Running.write_to.Goals as goal

pub take_lanes_back-requires : goal.take_lanes_back-requires
take_lanes_back-requires g c = rw c.into_lanes-lanes.ensures (none_missing c.self.inside.kernel c.self.inside.tickets c.self.invariant)

pub returns : goal.returns
returns g c =
    let back = c.take_lanes_back.new in
    let is = c.take_lanes_back.ensures in
    let image : image_of back.lanes (replicate (length back.lanes) None) ≡ c.args.self.image =
    sym (ap (image_of back.lanes) is.empty)
    ∙ (is.image ∙ (ap (λ (ls : Lanes). image_of ls c.self.inside.tickets) c.into_lanes-lanes.ensures ∙ ap (λ (v : WorldValue). v.image) c.self.view_is)) in
    subst (λ bs. OnOk c.write_lanes.result (Appends (g.W.Write.contents c.args.out.now) (g.W.Write.contents c.write_lanes.new.out) (joined bs))) image c.write_lanes.ensures
