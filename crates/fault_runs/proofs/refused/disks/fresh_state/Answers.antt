use Rattle.std.proofs.Common.{[], ◌∷◌, None, refl, sym, ◌∙◌, ap, arith, subst}
use Rattle.xn_state.specs.declared.found.Found.{Found}
use Rattle.xn_state.specs.Mounts.{image_types, AreFound}
use Rattle.templates.specs.Tables.{table_types}
use Rattle.fault_runs.proofs.refused.disks.fresh_state.Goals as goal

pub new-requires-clause-own : goal.new-requires-clause-own
new-requires-clause-own c =
    let found : Found = record { block = 0; ty = 0; owner = None; fs = None } in
    let law = c.fresh_disks_are_found.ensures 32 [] (found ∷ []) (omega arith, omega arith) (omega arith) (λ k d lt. absurd (omega (arith, lt))) refl in
    ap table_types c.requires.table ∙ (sym law.1 ∙ ap image_types (sym c.requires.image))

pub new-requires-clause-found : goal.new-requires-clause-found
new-requires-clause-found c =
    let found : Found = record { block = 0; ty = 0; owner = None; fs = None } in
    let law = c.fresh_disks_are_found.ensures 32 [] (found ∷ []) (omega arith, omega arith) (omega arith) (λ k d lt. absurd (omega (arith, lt))) refl in
    subst (λ image. AreFound image (found ∷ [])) (sym c.requires.image) law.0
