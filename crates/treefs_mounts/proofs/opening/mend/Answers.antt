use Rattle.std.proofs.Common.{◌≡◌, Err, Result, MatchResult, inr, subst}
use Rattle.xn_model.specs.Types.{Types}
use Rattle.treefs_model.specs.declared.fault.Fault.{Fault}
use Rattle.treefs_lookup.specs.declared.inodes.Found.{Found}
use Rattle.treefs_mounts.specs.Opening.{MakesPasses, Repeats, most_rounds}
use Rattle.treefs_mounts.specs.declared.passes.Pass.TheVariants as pass
use Rattle.treefs_mounts.proofs.opening.mend.Goals as goal

pub returns-clause-does : goal.returns-clause-does
returns-clause-does g c =
    let T = g.S.Store.types_of c.args.store.now in
    let old = g.S.Store.state_of c.args.store.now in
    let middle = g.S.Store.state_of c.repeat.new.store in
    let new = g.S.Store.state_of c.repeat-2.new.store in
    let between = c.repeat.new.volume in
    let volume = c.repeat-2.new.volume in
    let result = c.repeat-2.result in
    let inodes = subst (λ (t : Types). Repeats pass.Inodes t most_rounds middle new between volume result) c.repeat.ensures.types c.repeat-2.ensures.does in
    subst (λ (r : Result Found Fault). MatchResult r (λ found. MakesPasses T old new c.args.volume.now volume result)
    (λ fault. (result ≡ Err fault) × (new ≡ old) × (volume ≡ c.args.volume.now))) c.in_default.ensures
    (inr (middle, between, c.in_default-repeat.ensures.does, inodes))
