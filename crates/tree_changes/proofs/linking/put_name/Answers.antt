use Rattle.std.proofs.Common.{◌≡◌, ℕ, List, Err, Ok, Result, false, refl, subst, true}
use Rattle.std.specs.Prelude.{is_some}
use Rattle.std.specs.String.{string_bytes}
use Rattle.treefs_model.specs.declared.fault.Fault.{Fault}
use Rattle.tree_lines.specs.Answers.{Answers}
use Rattle.tree_changes.specs.Moving.{RenameIn}
use Rattle.tree_changes.specs.Naming.{LinkIn}
use Rattle.tree_changes.specs.Removing.{UnlinkIn}
use Rattle.tree_changes.proofs.Along.{failed}
use Rattle.tree_changes.proofs.NamesBeside.{moved_there, none_there, put_free, some_there, taken_back, unlinked}
use Rattle.tree_changes.proofs.linking.put_name.Goals as goal
use Rattle.tree_changes.proofs.linking.put_name.Goals.{else-is_err, then-is_err}

pub returns-then-not-is_there-clause-does : goal.returns-then-not-is_there-clause-does
returns-then-not-is_there-clause-does g c =
    let before = c.args.opened.now in
    let after = c.make_name.new.self in
    let old = g.S.Store.state_of before.session.store in
    let place = c.args.copied.now.place in
    let gone : is_some c.in-Ok.other ≡ false = let h = c.if-not-is_there.true in let k = c.is_some-is_there.ensures in cc in
    put_free (g.S.Store.types_of before.session.store) before.folder c.args.number place.folder place.name.now old (g.S.Store.state_of after.session.store)
    before.session.volume after.session.volume c.make_name.result
    (none_there old before.session.volume place.folder place.name.now c.in-Ok.other c.in-Ok.ensures gone) c.make_name.ensures.does

pub returns-in_err-make_name-clause-does : goal.returns-in_err-make_name-clause-does
returns-in_err-make_name-clause-does g c =
    let before = c.args.opened.now in
    let after = c.make_name-2.new.self in
    let T = g.S.Store.types_of before.session.store in
    let old = g.S.Store.state_of before.session.store in
    let middle = g.S.Store.state_of after.session.store in
    let place = c.args.copied.now.place in
    let present : is_some c.in-Ok.other ≡ true = let h = c.if-not-is_there.false in let k = c.is_some-is_there.ensures in cc in
    let other = some_there old before.session.volume place.folder place.name.now c.in-Ok.other c.in-Ok.ensures present in
    let refused = c.in_err-make_name.ensures.does in
    let beside = string_bytes c.in_ok-name.name in
    let link = subst (λ (name : List ℕ). LinkIn T before.folder c.args.number place.folder name old middle before.session.volume after.session.volume
    (Err refused.0)) c.as_bytes.ensures.value refused.1 in
    failed _ _ c.from_residual-in_err-make_name.result c.from_residual-in_err-make_name.ensures.0
    (unlinked T T before.folder before.folder refl refl c.args.number place.folder place.name.now beside other.0 old middle middle before.session.volume
    after.session.volume after.session.volume other.1 c.in_ok-name.ensures refused.0 link)

pub returns-clause-does : goal.returns-clause-does
returns-clause-does g c =
    let before = c.args.opened.now in
    let linked = c.make_name-2.new.self in
    let moved = c.move_to_place-moved.new.opened in
    let T = g.S.Store.types_of before.session.store in
    let types = g.S.Store.types_of linked.session.store in
    let old = g.S.Store.state_of before.session.store in
    let middle = g.S.Store.state_of linked.session.store in
    let new = g.S.Store.state_of moved.session.store in
    let place = c.args.copied.now.place in
    let present : is_some c.in-Ok.other ≡ true = let h = c.if-not-is_there.false in let k = c.is_some-is_there.ensures in cc in
    let other = some_there old before.session.volume place.folder place.name.now c.in-Ok.other c.in-Ok.ensures present in
    let made = c.in_ok-make_name.ensures in
    let beside = string_bytes c.in_ok-name.name in
    let link = subst (λ (name : List ℕ). LinkIn T before.folder c.args.number place.folder name old middle before.session.volume linked.session.volume
    (Ok tt)) c.as_bytes.ensures.value made.does in
    let rename = subst (λ (name : List ℕ). Answers (RenameIn types linked.folder place.folder name place.folder place.name.now middle new
    linked.session.volume moved.session.volume) c.move_to_place-moved.result) c.deref.ensures c.move_to_place-moved.ensures.does in
    elim c.if-is_err.branch [
      | then-is_err w ↦
          let after = w.take_back.new.opened in
          let taken = subst (λ (name : List ℕ). (taken : Result (Unit {0}) Fault) × UnlinkIn (g.S.Store.types_of moved.session.store) moved.folder place.folder
          name new (g.S.Store.state_of after.session.store) moved.session.volume after.session.volume taken) w.deref-then-is_err.ensures
          w.take_back.ensures.does in
          rw w.opened-is (taken_back T types before.folder linked.folder made.types made.folder c.args.number place.folder place.name.now beside other.0 old
          middle (g.S.Store.state_of after.session.store) before.session.volume linked.session.volume after.session.volume other.1 c.in_ok-name.ensures link
          c.move_to_place-moved.result (g.S.Store.types_of moved.session.store) moved.folder new moved.session.volume c.move_to_place-moved.ensures.types
          c.move_to_place-moved.ensures.folder (let h = w.if-is_err.true in let k = c.is_err.ensures.value in cc) rename taken)
      | else-is_err w ↦
          rw w.opened-is (moved_there T types before.folder linked.folder made.types made.folder c.args.number place.folder place.name.now beside other.0 old
          middle new before.session.volume linked.session.volume moved.session.volume other.1 c.in_ok-name.ensures link c.move_to_place-moved.result
          (let h = w.if-is_err.false in let k = c.is_err.ensures.value in cc) rename)
    ]
