use Rattle.std.proofs.Common.{◌≡◌, ℕ, List, Ok, ap, arith, length, subst, sym}
use Rattle.xn_model.specs.Calls.{patched}
use Rattle.xn_model.specs.Results.{unless}
use Rattle.xn_model.specs.Types.{Types}
use Rattle.xn_state.specs.States.{own_types}
use Rattle.xn_state.proofs.Filling.{filled_left}
use Rattle.xn_state.proofs.Unclaimed.{kept_left, some_life}
use Rattle.xn_state.proofs.state.State.left_by_run.Goals as goal

pub returns-in-Some : goal.returns-in-Some
returns-in-Some c =
    let state = c.args.self.now in
    let l = some_life state.lives c.args.block c.requires.alive in
    let old = c.args.old.now in
    let long : length old ≡ 512 = omega (arith, c.told-old) in
    let all = c.may_use_all.ensures c.if-may_use_all.true in
    let whole = subst (λ (T : Types). (m : List ℕ) → T.size c.args.ty m ≡ 512) c.types.ensures all in
    let left = kept_left (own_types state) state c.args.block c.args.ty c.in-Some.reads.chunks l.0 old c.args.edit.now l.1 c.requires.newest long (c.in-Some.ensures.decides l.0 l.1)
    c.in-Some.ensures.leaves c.kept_reads.ensures.rules c.are_bytes.ensures c.requires.limits whole in
    record { plan = sym (ap (λ r. unless r (Ok (patched old c.args.edit.now.patches))) left.0); reads = left.1 }

pub returns-in-Some-filled : goal.returns-in-Some-filled
returns-in-Some-filled c =
    let state = c.args.self.now in
    let edit = c.args.edit.now in
    let l = some_life state.lives c.args.block c.requires.alive in
    let old = c.args.old.now in
    let long : length old ≡ 512 = omega (arith, c.told-old) in
    let all = c.may_use_all.ensures c.if-may_use_all.true in
    let whole = subst (λ (T : Types). (m : List ℕ) → T.size c.args.ty m ≡ 512) c.types.ensures all in
    let left = filled_left (own_types state) state c.args.block c.args.ty old edit l.0 l.1 c.requires.newest c.kept_reads.ensures.rules c.in-Some-filled.ensures.no_drops
    c.in-Some-filled.ensures.inserts c.requires.added.0 c.requires.added.1 long c.requires.limits whole in
    record { plan = sym (ap (λ r. unless r (Ok (patched old edit.patches))) left); reads = c.in-Some-filled.ensures.reads }
