use Rattle.std.proofs.Common.{◌≡◌, ◌∙◌, None, length, replicate, sym, ap}
use Rattle.world.specs.Disks.{image_of, settled_image, given_to}
use Rattle.world.specs.Worlds.{WorldValue, world_with}
use Rattle.world.proofs.Images.{length-image_of}
use Rattle.world.proofs.Returns.{Lanes, none_missing}
use Rattle.world.proofs.Crashing.{crashed_rest, crashed_image, long_image}
use Rattle.world.proofs.running.Running.unmount.Goals as goal

pub take_lanes_back-requires : goal.take_lanes_back-requires
take_lanes_back-requires g c = rw c.into_lanes-lanes.ensures (none_missing c.self.inside.kernel c.self.inside.tickets c.self.invariant)

pub new-requires : goal.new-requires
new-requires g c =
    let crash = c.crash_lanes.ensures.crashed in
    let rest = crashed_rest c.args.kept.now c.take_lanes_back.new.lanes c.crash_lanes.new.lanes c.take_lanes_back.ensures.home crash in
    record {
      home = rest;
      empty = c.take_lanes_back.ensures.empty ∙ ap (λ n. replicate n None) (sym crash.count);
      long = long_image c.crash_lanes.new.lanes c.take_lanes_back.new.tickets rest c.crash_lanes.ensures.long;
    }

pub returns : goal.returns
returns g c =
    let tickets = c.self.inside.tickets in
    let back = c.take_lanes_back.new in
    let is = c.take_lanes_back.ensures in
    let settled : settled_image back.lanes back.tickets ≡ c.args.self.settled =
    is.settled ∙ (ap (λ (ls : Lanes). settled_image ls tickets) c.into_lanes-lanes.ensures ∙ ap (λ (v : WorldValue). v.settled) c.self.view_is) in
    let given : given_to back.lanes back.tickets ≡ c.args.self.given =
    is.given ∙ (ap (λ (ls : Lanes). given_to ls tickets) c.into_lanes-lanes.ensures ∙ ap (λ (v : WorldValue). v.given) c.self.view_is) in
    let image : image_of back.lanes back.tickets ≡ c.args.self.image =
    is.image ∙ (ap (λ (ls : Lanes). image_of ls tickets) c.into_lanes-lanes.ensures ∙ ap (λ (v : WorldValue). v.image) c.self.view_is) in
    let count : length c.args.self.image ≡ length back.lanes = sym (ap length image) ∙ length-image_of back.lanes back.tickets in
    c.new.ensures ∙ crashed_image c.args.kept.now back.lanes c.crash_lanes.new.lanes is.home c.crash_lanes.ensures.crashed (world_with c.args.self) back.tickets settled given count
