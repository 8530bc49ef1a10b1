use Rattle.std.proofs.Common.{◌≡◌, ℕ, Err, Ok, subst}
use Rattle.std.specs.Prelude.{MatchResult, Option, Result}
use Rattle.treefs_model.specs.Files.{and_then}
use Rattle.treefs_model.specs.declared.fault.Fault.{Fault}
use Rattle.treefs_lookup.specs.Readable.{readable}
use Rattle.treefs_lookup.specs.declared.places.NamePlace.{NamePlace}
use Rattle.treefs_name_plans.specs.CommitPlans.{IsNumberFound, IsNumbered, IsTarget, IsTargetOf, commit_in_room}
use Rattle.treefs_name_plans.specs.Namings.{naming_for}
use Rattle.treefs_name_plans.specs.NewNames.{directory_for, taken_in}
use Rattle.treefs_name_plans.specs.declared.name_end.NameEnd.{NameEnd}
use Rattle.treefs_name_plans.proofs.Cases.{of_block, of_ok}
use Rattle.treefs_name_plans.proofs.commit.plan_commit.Goals as goal

pub returns-clause-planned : goal.returns-clause-planned
returns-clause-planned g c =
    let a = c.args in
    let state = g.S.Store.state_of a.store.now in
    let content = readable state a.tree.fs.number in
    let memory = a.memory.now in
    let name = a.name.now in
    let found = c.in_ok-found in
    let replaced = c.in_ok-replaced.replaced in
    let result = c.plan_numbered.result in
    let target : Result (Option NameEnd) Fault = Ok replaced in
    of_block
    (λ (directory : ℕ). (target : Result (Option NameEnd) Fault) × IsTarget state a.tree memory a.directory name a.replace target
    × MatchResult target (IsNumbered state a.tree memory a.directory directory name result) (λ fault. result ≡ Err fault))
    (λ (fault : Fault). result ≡ Err fault) (directory_for content a.tree.top a.directory name) found.found.directory found.ensures.directory (
      target,
      of_ok (IsTargetOf state a.tree memory a.directory name a.replace target) (λ (fault : Fault). target ≡ Err fault) (taken_in content a.tree.top a.directory name)
          found.found.taken found.ensures.taken c.in_ok-replaced.ensures,
      subst (λ (place : Result NamePlace Fault). (number : Result ℕ Fault) × IsNumberFound state a.tree memory number
          × (result ≡ and_then number (λ n. and_then (naming_for content a.tree.node_type found.found.directory place replaced)
          (commit_in_room state a.tree memory 30 n found.found.directory))))
          found.ensures.place c.plan_numbered.ensures,
    )
