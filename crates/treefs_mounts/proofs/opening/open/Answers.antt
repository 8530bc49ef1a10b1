use Rattle.std.proofs.Common.{◌≡◌, ◌∙◌, ℤ, Err, Ok, Result, MatchResult, ap, of_z, subst, to_z, w64}
use Rattle.std.proofs.Math.Facts.{to_z-of_z}
use Rattle.treefs_model.specs.declared.fault.Fault.{Fault}
use Rattle.treefs.specs.Opening.{opened}
use Rattle.treefs.specs.declared.volume.Volume.{Volume}
use Rattle.treefs_mounts.specs.Opening.{Prepares}
use Rattle.treefs_mounts.proofs.opening.open.Goals as goal

pub returns-in-Err-prepare-clause-does : goal.returns-in-Err-prepare-clause-does
returns-in-Err-prepare-clause-does g c =
    let T = g.S.Store.types_of c.args.store.now in
    let old = g.S.Store.state_of c.args.store.now in
    let new = g.S.Store.state_of c.prepare.new.store in
    let fault = c.in-Err-prepare.fault in
    let time_is : to_z w64 (of_z w64 c.args.time) ≡ c.args.time = to_z-of_z {w = w64} {z = c.args.time} c.ranges.time in
    let found : ◌≡◌ {A = Result Volume Fault} (Ok c.in-Ok.volume) (opened old c.args.fs c.args.types c.args.time) =
    c.in-Ok.ensures ∙ ap (λ (t : ℤ). opened old c.args.fs c.args.types t) time_is in
    subst (λ (r : Result Volume Fault). MatchResult r (λ found. (left : Volume) × Prepares T old new found left (Err fault))
    (λ other. (◌≡◌ {A = Result Volume Fault} (Err fault) (Err other)) × (new ≡ old))) found (c.prepare.new.volume, c.in-Err-prepare.ensures.does)
