use Rattle.std.proofs.Common.{◌∙◌, inl, inr, refl}
use Rattle.std.specs.String.{string_bytes}
use Rattle.tree_puts.proofs.Beside.{linked_over, not_linked}
use Rattle.tree_puts.proofs.Unchanged.{none_changed}
use Rattle.tree_puts.proofs.linking.link_over.Goals as goal

pub returns-in_err-beside-clause-does : goal.returns-in_err-beside-clause-does
returns-in_err-beside-clause-does g c = inl (c.from_residual.ensures.0, none_changed _)

pub returns-in_err-link_as-clause-does : goal.returns-in_err-link_as-clause-does
returns-in_err-link_as-clause-does g c =
    let link = c.link_as.ensures in
    let beside = string_bytes c.in_ok-beside.beside in
    let done = not_linked c.args.goods c.args.number beside c.as_bytes.result.now c.as_bytes.ensures.value c.in_err-link_as.field-0.0
    c.from_residual-in_err-link_as.result c.from_residual-in_err-link_as.ensures.0 c.in_err-link_as.ensures.does in
    inr (beside, c.in_ok-beside.ensures, (((link.types, link.folder), done, link.told), (refl, refl)))

pub returns-clause-does : goal.returns-clause-does
returns-clause-does g c =
    let link = c.link_as.ensures in
    let moves = c.move_to_place.ensures in
    let beside = string_bytes c.in_ok-beside.beside in
    let done = linked_over c.args.goods c.args.number beside c.as_bytes.result.now c.as_bytes.ensures.value c.as_str.result.now c.as_str.ensures.value
    c.move_to_place.result c.in_ok-link_as.ensures.does link.types link.folder moves.does in
    inr (
      beside,
      c.in_ok-beside.ensures,
      (((moves.types ∙ link.types, moves.folder ∙ link.folder), done, moves.told ∙ link.told), (refl, refl)),
    )
