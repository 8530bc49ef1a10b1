use Rattle.std.proofs.Common.{◌≡◌, ◌∙◌, [], Ok, ap, length, sym}
use Rattle.std.proofs.lemmas.Grind.{common_steps}
use Rattle.std.proofs.Common.{arith}
use Rattle.xn_model.specs.Calls.{patched}
use Rattle.xn_model.specs.Results.{unless}
use Rattle.xn_state.specs.States.{own_types}
use Rattle.xn_state.proofs.Unclaimed.{data_left, newest_type, some_life}
use Rattle.xn_state.proofs.state.State.left_by.Goals as goal

pub returns-then-is_empty-2 : goal.returns-then-is_empty-2
returns-then-is_empty-2 c =
    let state = c.args.self.now in
    let edit = c.args.edit.now in
    let l = some_life state.lives c.args.block c.requires.alive in
    let adds : edit.adds ≡ [] = sym c.adds.ensures ∙ grind (arith, common_steps, c.is_empty.ensures, c.if-is_empty.true) in
    let drops : edit.drops ≡ [] = sym c.drops.ensures ∙ grind (arith, common_steps, c.is_empty-then-is_empty.ensures, c.if-is_empty-2.true) in
    let same = newest_type state.lives c.args.block c.args.ty l.0 c.args.old.now l.1 c.requires.newest in
    let long : length c.args.old.now ≡ 512 = omega (arith, c.told-old) in
    let left = data_left (own_types state) state c.args.block c.args.ty l.0 c.args.old.now edit c.keeps_rules.ensures l.1 same c.if-ty-eq-DATA_TYPE.true long c.requires.limits adds drops in
    record { plan = sym (ap (λ r. unless r (Ok (patched c.args.old.now edit.patches))) left); reads = tt }
