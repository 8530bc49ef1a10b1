use Rattle.std.proofs.Common.{inr}
use Rattle.tree_changes.proofs.Along.{failed}
use Rattle.tree_changes.proofs.folders.make_folder.Goals as goal

pub returns-in_err-_number-clause-does : goal.returns-in_err-_number-clause-does
returns-in_err-_number-clause-does g c =
    let place = c.in_ok-place.place in
    let made = c.attributes_with in
    let does = c.in_err-_number.ensures.does in
    failed _ _ c.from_residual-in_err-_number.result c.from_residual-in_err-_number.ensures.0
    (inr (does.0, (place.folder, place.name.now, place.has_slash, made.result, c.in_ok-place.ensures.ok, made.ensures.new, does.1)))

pub returns-clause-does : goal.returns-clause-does
returns-clause-does g c =
    let place = c.in_ok-place.place in
    let made = c.attributes_with in
    let does = c.in_ok-_number.ensures.does in
    (c.in_ok-_number._number, (place.folder, place.name.now, place.has_slash, made.result, c.in_ok-place.ensures.ok, made.ensures.new, does))
