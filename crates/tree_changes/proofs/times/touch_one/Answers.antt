use Rattle.std.proofs.Common.{◌≡◌, ◌∙◌, ℤ, FitsSigned, None, of_z, rules, to_z, ap, false, unwrap_or, w64}
use Rattle.std.proofs.lemmas.Int.{to_z-of_z}
use Rattle.tree_changes.specs.Files.{TouchesIn}
use Rattle.tree_changes.proofs.Changing.{changed_answered, new_touched, touched_answers}
use Rattle.tree_changes.proofs.times.touch_one.Goals as goal
use Rattle.tree_changes.proofs.times.touch_one.Goals.{in_default-via-in-None+else-is_new, in_default-via-in_default}

pub returns-in-None-clause-does : goal.returns-in-None-clause-does
returns-in-None-clause-does g c =
    let before = c.args.opened.now in
    let after = c.find_or_create.new.opened in
    let found = c.in_ok-number in
    let state = g.S.Store.state_of after.session.store in (
      found.number,
      found.is_new,
      state,
      after.session.volume,
      found.ensures.does,
      new_touched c.args.time (g.S.Store.types_of before.session.store) before.folder found.number found.is_new state after.session.volume c.in-None.is
          c.if-is_new.true,
    )

pub returns-in_default-clause-does : goal.returns-in_default-clause-does
returns-in_default-clause-does g c =
    let before = c.args.opened.now in
    let between = c.find_or_create.new.opened in
    let after = c.make.new.self in
    let found = c.in_ok-number in
    let old = g.S.Store.state_of before.session.store in
    let middle = g.S.Store.state_of between.session.store in
    let new = g.S.Store.state_of after.session.store in
    let types = g.S.Store.types_of between.session.store in
    let known : c.args.time ≡ None → found.is_new ≡ false = elim c.in_default.branch [
      | in_default-via-in-None+else-is_new w ↦ λ none. w.if-is_new.false
      | in_default-via-in_default w ↦ λ none. absurd (w.in_default.not-None none)
    ] in
    let now = c.clock_of-now.ensures ∙ ap (λ v. v.memory.clock) c.volume.ensures in
    let fits : FitsSigned w64 c.clock_of-now.result = search rules in
    let back = to_z-of_z w64 c.clock_of-now.result fits in
    let mtime_fits : FitsSigned w64 c.unwrap_or-mtime.result = search rules in
    let mtime = to_z-of_z w64 c.unwrap_or-mtime.result mtime_fits ∙ (c.unwrap_or-mtime.ensures ∙ ap (λ (t : ℤ). unwrap_or c.args.time t) back) in
    changed_answered (TouchesIn c.args.time) (g.S.Store.types_of before.session.store) types before.folder between.folder found.ensures.types
    found.ensures.folder c.args.path.now old middle new before.session.volume between.session.volume after.session.volume found.number found.is_new
    found.ensures.does c.make.result
    (touched_answers c.args.time types between.folder found.number found.is_new c.clock_of-now.result (to_z w64 (of_z w64 c.unwrap_or-mtime.result)) middle new
    between.session.volume after.session.volume c.make.result known now mtime c.make.ensures.does)
