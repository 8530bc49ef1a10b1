use Rattle.std.proofs.Common.{◌≡◌, ◌∙◌, [], ◌∷◌, Err, ap, refl, subst}
use Rattle.xn_model.specs.Calls.{make_root_of}
use Rattle.xn_model.specs.Lives.{StoreState}
use Rattle.xn_model.specs.Results.{Gives}
use Rattle.xn_model.specs.Types.{Types}
use Rattle.treefs_edits.specs.Plans.{forgotten}
use Rattle.treefs.proofs.Refused.{refused}
use Rattle.treefs.proofs.making.set_root.Goals as goal

pub returns-in-Err-clause-sets : goal.returns-in-Err-clause-sets
returns-in-Err-clause-sets g c =
    let T = g.S.Store.types_of c.args.store.now in
    let state = g.S.Store.state_of c.args.store.now in
    let after = g.S.Store.state_of c.make_root.new.self in
    let fs = c.args.fs.number in
    let block = c.args.block in
    let reason = c.in-Err.reason in
    let same : after ≡ state = refused (make_root_of state fs block) state after reason c.in-Err.ensures.state in (
      reason,
      subst (λ (s : StoreState). Gives (make_root_of state fs block) state s (Err reason)) same c.in-Err.ensures.state,
      refl,
      c.forget_all.ensures.forgotten ∙ (ap (λ (t : Types). forgotten t fs (block ∷ []) after) c.in-Err.ensures.types ∙ ap (λ (s : StoreState). forgotten T fs (block ∷ []) s) same),
    )
