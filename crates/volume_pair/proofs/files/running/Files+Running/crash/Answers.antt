use Rattle.std.proofs.Common.{Option, sym, subst, IfSome}
use Rattle.xn_state.specs.States.{own_types}
use Rattle.world.specs.Worlds.{WorldValue}
use Rattle.volume_pair.specs.Kept.{IsKept}
use Rattle.volume_pair.proofs.files.running.Files+Running.crash.Goals as goal

pub invariant_of-self-2 : goal.invariant_of-self-2
invariant_of-self-2 g c =
    let self = c.self.inside in
    c.in_ok-store.ensures.kept self.fs.number self.volume
    (subst (λ (taken : Option WorldValue). IfSome taken (λ store. IsKept (own_types store.state) store.state self.fs.number self.volume)) (sym c.in_ok-take.ensures.value) c.self.invariant)
