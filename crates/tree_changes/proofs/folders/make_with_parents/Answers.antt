use Rattle.std.proofs.Common.{◌≡◌, ◌∙◌, [], ◌∷◌, ◌++◌, arith, length, refl}
use Rattle.std.proofs.lemmas.Iterator.Adapters.{YieldsList-from_bytes}
use Rattle.std.proofs.lemmas.Iterator.Consumers.{YieldsList-at, YieldsList-end, YieldsList-from_enumerate, YieldsList-turn}
use Rattle.std.proofs.lemmas.List.{length_push}
use Rattle.tree_changes.specs.Making.{HasFolder}
use Rattle.tree_changes.proofs.Along.{failed, none_done}
use Rattle.tree_changes.proofs.Fronts.{all_fronts, byte_at}
use Rattle.tree_changes.proofs.Parents.{empty_answered, front_done, front_stops, passed_byte, path_answered}
use Rattle.tree_changes.proofs.folders.make_with_parents.Goals as goal
use Rattle.tree_changes.proofs.folders.make_with_parents.Goals.{
  else-byte-eq47-via-else-byte-eq47,
  else-byte-eq47-via-then-byte-eq47+else-end-gt0,
}

pub loop-end-init : goal.loop-end-init
loop-end-init g c =
    let opened = c.args.opened.now in
    record {
      types = refl;
      folder = refl;
      told = refl;
      does = none_done (HasFolder (g.S.Store.types_of opened.session.store) opened.folder) (g.S.Store.state_of opened.session.store) opened.session.volume;
    }

pub returns-in_err-make_missing-clause-does : goal.returns-in_err-make_missing-clause-does
returns-in_err-make_missing-clause-does g c =
    let road = YieldsList-from_enumerate (YieldsList-at (cc) (YieldsList-from_bytes {s = c.bytes.result} c.args.path.now c.bytes.ensures.rest)) (cc) in
    let turn = YieldsList-turn road c.loop-end.yielded _ c.loop-end.yielded_by _ _ _ c.in-Some.is c.next.ensures.steps in
    let first = c.args.opened.now in
    let before = c.loop-end.opened in
    let after = c.make_missing.new.opened in
    let path = c.args.path.now in
    let n = length c.loop-end.yielded in
    let byte = byte_at path n c.in-Some.end c.in-Some.byte turn in
    let inv = c.loop-end.invariant in
    failed _ _ c.from_residual.result c.from_residual.ensures.0
    (front_stops (g.S.Store.types_of first.session.store) (g.S.Store.types_of before.session.store) first.folder before.folder inv.types inv.folder path
    (g.S.Store.state_of first.session.store) (g.S.Store.state_of before.session.store) (g.S.Store.state_of after.session.store)
    first.session.volume before.session.volume after.session.volume n (length (c.loop-end.yielded ++ (c.in-Some.end, c.in-Some.byte) ∷ []))
    c.in-Some.end c.in-Some.byte (length_push c.loop-end.yielded (c.in-Some.end, c.in-Some.byte)) byte inv.does
    c.range.result.now c.if-byte-eq47.true c.if-end-gt0.true c.range.ensures.value c.in_err-make_missing.ensures.does)

pub loop-end-preserved-then-end-gt0 : goal.loop-end-preserved-then-end-gt0
loop-end-preserved-then-end-gt0 g c =
    let road = YieldsList-from_enumerate (YieldsList-at (cc) (YieldsList-from_bytes {s = c.bytes.result} c.args.path.now c.bytes.ensures.rest)) (cc) in
    let turn = YieldsList-turn road c.loop-end.yielded _ c.loop-end.yielded_by _ _ _ c.in-Some.is c.next.ensures.steps in
    let first = c.args.opened.now in
    let before = c.loop-end.opened in
    let after = c.make_missing.new.opened in
    let path = c.args.path.now in
    let n = length c.loop-end.yielded in
    let byte = byte_at path n c.in-Some.end c.in-Some.byte turn in
    let inv = c.loop-end.invariant in
    let made = c.make_missing.ensures in
    record {
      types = made.types ∙ inv.types;
      folder = made.folder ∙ inv.folder;
      told = made.told ∙ inv.told;
      does = front_done (g.S.Store.types_of first.session.store) (g.S.Store.types_of before.session.store) first.folder before.folder inv.types inv.folder path
          (g.S.Store.state_of first.session.store) (g.S.Store.state_of before.session.store) (g.S.Store.state_of after.session.store)
          first.session.volume before.session.volume after.session.volume n (length (c.loop-end.yielded ++ (c.in-Some.end, c.in-Some.byte) ∷ []))
          c.in-Some.end c.in-Some.byte (length_push c.loop-end.yielded (c.in-Some.end, c.in-Some.byte)) byte inv.does
          c.range.result.now c.if-byte-eq47.true c.if-end-gt0.true c.range.ensures.value c.in_ok-make_missing.ensures.does;
    }

pub loop-end-preserved : goal.loop-end-preserved
loop-end-preserved g c =
    let road = YieldsList-from_enumerate (YieldsList-at (cc) (YieldsList-from_bytes {s = c.bytes.result} c.args.path.now c.bytes.ensures.rest)) (cc) in
    let turn = YieldsList-turn road c.loop-end.yielded _ c.loop-end.yielded_by _ _ _ c.in-Some.is c.next.ensures.steps in
    let first = c.args.opened.now in
    let before = c.loop-end.opened in
    let path = c.args.path.now in
    let n = length c.loop-end.yielded in
    let byte = byte_at path n c.in-Some.end c.in-Some.byte turn in
    let inv = c.loop-end.invariant in
    let none : c.in-Some.byte ≡ 47 → c.in-Some.end ≡ 0 = elim c.else-byte-eq47.branch [
      | else-byte-eq47-via-else-byte-eq47 w ↦ λ slash. absurd (w.if-byte-eq47.false slash)
      | else-byte-eq47-via-then-byte-eq47+else-end-gt0 w ↦ λ slash. omega (arith, w.if-end-gt0.false)
    ] in
    record {
      types = inv.types;
      folder = inv.folder;
      told = inv.told;
      does = passed_byte (g.S.Store.types_of first.session.store) (g.S.Store.types_of before.session.store) first.folder before.folder inv.types inv.folder path
          (g.S.Store.state_of first.session.store) (g.S.Store.state_of before.session.store) (g.S.Store.state_of before.session.store)
          first.session.volume before.session.volume before.session.volume n (length (c.loop-end.yielded ++ (c.in-Some.end, c.in-Some.byte) ∷ []))
          c.in-Some.end c.in-Some.byte (length_push c.loop-end.yielded (c.in-Some.end, c.in-Some.byte)) byte inv.does none;
    }

pub returns-then-is_empty-clause-does : goal.returns-then-is_empty-clause-does
returns-then-is_empty-clause-does g c =
    let road = YieldsList-from_enumerate (YieldsList-at (cc) (YieldsList-from_bytes {s = c.bytes.result} c.args.path.now c.bytes.ensures.rest)) (cc) in
    let end = YieldsList-end road c.loop-end.yielded _ c.loop-end.yielded_by _ _ c.in-None.is c.next.ensures.steps in
    let first = c.args.opened.now in
    let before = c.loop-end.opened in
    let after = c.make_folder.new.opened in
    let path = c.args.path.now in
    let n = length c.loop-end.yielded in
    let inv = c.loop-end.invariant in
    empty_answered (g.S.Store.types_of first.session.store) (g.S.Store.types_of before.session.store) first.folder before.folder inv.types inv.folder path
    (g.S.Store.state_of first.session.store) (g.S.Store.state_of before.session.store) (g.S.Store.state_of after.session.store)
    first.session.volume before.session.volume after.session.volume n (all_fronts path n end.1) inv.does c.make_folder.result c.if-is_empty.ensures c.make_folder.ensures.does

pub returns-clause-does : goal.returns-clause-does
returns-clause-does g c =
    let road = YieldsList-from_enumerate (YieldsList-at (cc) (YieldsList-from_bytes {s = c.bytes.result} c.args.path.now c.bytes.ensures.rest)) (cc) in
    let end = YieldsList-end road c.loop-end.yielded _ c.loop-end.yielded_by _ _ c.in-None.is c.next.ensures.steps in
    let first = c.args.opened.now in
    let before = c.loop-end.opened in
    let after = c.make_missing-2.new.opened in
    let path = c.args.path.now in
    let n = length c.loop-end.yielded in
    let inv = c.loop-end.invariant in
    path_answered (g.S.Store.types_of first.session.store) (g.S.Store.types_of before.session.store) first.folder before.folder inv.types inv.folder path
    (g.S.Store.state_of first.session.store) (g.S.Store.state_of before.session.store) (g.S.Store.state_of after.session.store)
    first.session.volume before.session.volume after.session.volume n (all_fronts path n end.1) inv.does c.make_missing-2.result c.make_missing-2.ensures.does
