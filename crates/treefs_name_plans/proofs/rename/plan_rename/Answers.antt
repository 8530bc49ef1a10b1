use Rattle.std.proofs.Common.{◌≡◌, Err, Ok, sym}
use Rattle.std.specs.Prelude.{MatchBool, MatchResult, None, Option, Result}
use Rattle.treefs_format.specs.Names.{is_name}
use Rattle.treefs_model.specs.declared.fault.Fault.{Fault}
use Rattle.treefs_lookup.specs.Inodes.{directory_found}
use Rattle.treefs_lookup.specs.Readable.{readable}
use Rattle.treefs_lookup.specs.declared.names.Slot.{Slot}
use Rattle.treefs_name_plans.specs.Moves.{moved_in, moved_old}
use Rattle.treefs_name_plans.specs.NewNames.{taken_in}
use Rattle.treefs_name_plans.specs.RenamePlans.{IsMovePlanned, leads_to}
use Rattle.treefs_name_plans.specs.declared.moved.Moved.{Moved}
use Rattle.treefs_name_plans.proofs.Cases.{no_fault, of_ok}
use Rattle.treefs_name_plans.proofs.rename.plan_rename.Goals as goal

pub returns-clause-planned : goal.returns-clause-planned
returns-clause-planned g c =
    let a = c.args in
    let state = g.S.Store.state_of a.store.now in
    let content = readable state a.tree.fs.number in
    let result = c.plan_found.result in
    let taken = taken_in content a.tree.top a.new_directory a.new_name.now in
    let found = c.in_ok-found in
    let moved = c.in_ok-moved in
    of_ok
    (λ (moved : Moved). MatchResult taken
    (λ taken. MatchBool (leads_to taken moved.old.slot.number) (result ≡ Ok None)
    (IsMovePlanned state a.tree a.memory.now moved a.directory a.new_directory a.new_name.now taken result))
    (λ fault. result ≡ Err fault))
    (λ (fault : Fault). result ≡ Err fault) (moved_in content a.tree.top a.directory a.name.now a.new_directory a.new_name.now) moved.moved (sym moved.ensures.moved) (
    of_ok
    (λ (taken : Option Slot). MatchBool (leads_to taken moved.moved.old.slot.number) (result ≡ Ok None)
    (IsMovePlanned state a.tree a.memory.now moved.moved a.directory a.new_directory a.new_name.now taken result))
    (λ (fault : Fault). result ≡ Err fault) taken found.found.taken found.ensures.taken c.plan_found.ensures
    )

pub returns-in_err-found-clause-planned : goal.returns-in_err-found-clause-planned
returns-in_err-found-clause-planned g c =
    let a = c.args in
    let content = readable (g.S.Store.state_of a.store.now) a.tree.fs.number in
    let top = a.tree.top in
    absurd (no_fault (directory_found content top a.directory) (directory_found content top a.new_directory) (is_name a.name.now) (is_name a.new_name.now)
    (moved_old content top a.directory a.name.now a.new_directory) c.in_ok-moved.moved c.in_err-found.field-0.0 (sym c.in_ok-moved.ensures.moved)
    (sym c.in_err-found.ensures.directory))
