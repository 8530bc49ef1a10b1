use Rattle.std.proofs.Common.{◌++◌, length, arith, refl, sym, ◌∙◌}
use Rattle.std.proofs.lemmas.Bool.{eqb-true, eqb-false}
use Rattle.script.specs.Edits.{SpellsPatch}
use Rattle.script.proofs.EditCuts.{edit_cut, parts_of, edit_of, as_many}
use Rattle.script.proofs.edit.parse_edit.Goals as goal

pub returns-in_default-clause-none : goal.returns-in_default-clause-none
returns-in_default-clause-none c = λ edit spells.
    c.in_default.ensures.none edit.after (spells.patches ++ (spells.adds ++ spells.drops)) (edit_cut _ edit spells)

pub returns-then-is_empty-clause-none : goal.returns-then-is_empty-clause-none
returns-then-is_empty-clause-none c = λ edit spells.
    let parts = parts_of _ _ _ _ _ _ c.in-Some.after edit c.in-Some.ensures.some c.cut_before.ensures c.cut_before-2.ensures spells in
    let long = as_many SpellsPatch c.cut_before-2.result.0.now edit.patches parts.spells_patches in
    let empty = eqb-true (length c.cut_before-2.result.0.now) 0 (sym c.is_empty.ensures ∙ c.if-is_empty.true) in
    absurd (omega (arith, parts.some_patch))

pub returns-in_default-2-clause-none : goal.returns-in_default-2-clause-none
returns-in_default-2-clause-none c = λ edit spells.
    let parts = parts_of _ _ _ _ _ _ c.in-Some.after edit c.in-Some.ensures.some c.cut_before.ensures c.cut_before-2.ensures spells in
    (rw c.in_default-2.is at c.in_ok-patches.ensures.none) edit.patches parts.spells_patches

pub returns-in_default-3-clause-none : goal.returns-in_default-3-clause-none
returns-in_default-3-clause-none c = λ edit spells.
    let parts = parts_of _ _ _ _ _ _ c.in-Some.after edit c.in-Some.ensures.some c.cut_before.ensures c.cut_before-2.ensures spells in
    (rw c.in_default-3.is at c.in_ok-adds.ensures.none) edit.adds parts.spells_adds

pub returns-in_default-4-clause-none : goal.returns-in_default-4-clause-none
returns-in_default-4-clause-none c = λ edit spells.
    let parts = parts_of _ _ _ _ _ _ c.in-Some.after edit c.in-Some.ensures.some c.cut_before.ensures c.cut_before-2.ensures spells in
    (rw c.in_default-4.is at c.in_ok-drops.ensures.none) edit.drops parts.spells_drops

pub returns-clause-some : goal.returns-clause-some
returns-clause-some c =
    let patches = rw c.in-Some-2.is at c.in_ok-patches.ensures.some in
    let adds = rw c.in-Some-3.is at c.in_ok-adds.ensures.some in
    let drops = rw c.in-Some-4.is at c.in_ok-drops.ensures.some in
    let long = as_many SpellsPatch c.cut_before-2.result.0.now c.in-Some-2.patches.items patches in
    let some = eqb-false (length c.cut_before-2.result.0.now) 0 (sym c.is_empty.ensures ∙ c.if-is_empty.false) in
    edit_of _ _ _ _ _ _ c.in-Some.after _ c.in-Some.ensures.some c.cut_before.ensures c.cut_before-2.ensures refl
    (record { spells_patches = patches; some_patch = omega (arith, long, some); spells_adds = adds; spells_drops = drops })
