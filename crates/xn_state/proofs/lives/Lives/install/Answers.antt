use Rattle.std.proofs.Common.{◌∙◌, ◌+◌, None, ap, slice_set, subst, sym}
use Rattle.xn_model.specs.Lives.{Lives, life_at}
use Rattle.xn_model.specs.Calls.{life_bytes}
use Rattle.block_cache.specs.Claims.{ClaimValue}
use Rattle.dependencies.specs.Pending.{pends}
use Rattle.dependencies.specs.Index.{IsUnowned}
use Rattle.xn_state.proofs.Installing.{begun, begun_undone, begun_unowned, root_stays, second_fresh}
use Rattle.xn_state.proofs.lives.Lives.install.Goals as goal

pub accept-requires-clause-undoes : goal.accept-requires-clause-undoes
accept-requires-clause-undoes c =
    let lives = c.args.self.now in
    c.requires.undoes ∙ sym (ap (λ (xs : Lives). life_bytes (life_at xs 0)) c.in_ok-start.ensures.ok ∙ ap life_bytes (root_stays lives c.args.block c.args.number c.args.template.now c.requires.free c.requires.alive))

pub accept-requires-clause-fresh : goal.accept-requires-clause-fresh
accept-requires-clause-fresh c =
    λ b. (λ i. pends ((ap (λ (claim : ClaimValue). claim.entry) c.in_ok-claim.ensures) i) (life_at (c.in_ok-start.ensures.ok i) b))
    ∙ ap (λ n. pends (n + 1) (life_at (begun c.args.self.now c.args.block c.args.number c.args.template.now c.requires.free) b)) c.number.view_is
    ∙ second_fresh c.args.self.now c.args.block c.args.number c.args.template.now c.requires.free c.requires.fresh b

pub forget-requires : goal.forget-requires
forget-requires c =
    subst (λ (xs : Lives). IsUnowned (life_at xs c.args.block)) (sym (c.in-Err.ensures.err ∙ c.in_ok-start.ensures.ok)) (begun_unowned c.args.self.now c.args.block c.args.number c.args.template.now c.requires.free)

pub returns-in-Err-clause-err : goal.returns-in-Err-clause-err
returns-in-Err-clause-err c =
    c.forget.ensures
    ∙ (ap (λ (xs : Lives). slice_set xs c.args.block None) (c.in-Err.ensures.err ∙ c.in_ok-start.ensures.ok)
    ∙ begun_undone c.args.self.now c.args.block c.args.number c.args.template.now c.requires.free)
