use Rattle.std.proofs.Common.{◌≡◌, ◌∙◌, ◌<◌, ◌^◌, ◌-◌, Ok, Err, [], arith, inl, refl}
use Rattle.tree_lines.specs.declared.fault.Fault.{Fault as LineFault}
use Rattle.tree_puts.specs.Actions.Action.{writes}
use Rattle.tree_puts.proofs.Arrivals.{first_arriving, part_got}
use Rattle.tree_puts.proofs.Performed.{none_done, one_done}
use Rattle.tree_puts.proofs.Whole.{whole_ends, whole_goes, whole_more, whole_most, whole_stops, whole_unread}
use Rattle.tree_puts.proofs.arriving.Arriving.write_rest.Goals as goal
use Rattle.tree_puts.proofs.arriving.Arriving.write_rest.Goals.{else-loop-turn-test, then-loop-turn-test+in_ok-write_all+then-to-piece}

pub loop-turn-init : goal.loop-turn-init
loop-turn-init g c = record {
  types = refl;
  folder = refl;
  told = refl;
  linked = refl;
  sources = refl;
  written = λ wide within. record {
    before = [];
    arriving = first_arriving _ _;
    within = within;
    stands = inl (refl, refl, refl);
    performed = none_done refl refl refl;
  };
}

pub returns-in_err-write_all-clause-does : goal.returns-in_err-write_all-clause-does
returns-in_err-write_all-clause-does g c wide within =
    let first = c.args.volume.now in
    let before = c.loop-turn.volume in
    let after = c.write_all.new.self in
    let so = c.loop-turn.invariant.written wide within in
    let types = c.loop-turn.invariant.types in
    let folder = c.loop-turn.invariant.folder in
    let bytes = c.unwrap_or-bytes.result.now in
    let bytes_are = part_got c.loop-turn.piece c.loop-turn.from c.loop-turn.to c.get.result _ c.unwrap_or-bytes.result refl c.unwrap_or-bytes.ensures so.within
    c.get.ensures.lookup.0 in
    let done = one_done (g.S.Store.types_of before.session.store) before.folder (g.S.Store.state_of before.session.store) (g.S.Store.state_of
    after.session.store)
    before.session.volume after.session.volume {A = Unit {0}} {E = LineFault} (writes c.args.block c.loop-turn.at bytes) (Err c.in_err-write_all.field-0.0)
    c.in_err-write_all.ensures.does in
    whole_stops so types folder bytes bytes_are c.loop-turn.auto.piece done c.from_residual.result c.from_residual.ensures.0

pub returns-in-Err-clause-does : goal.returns-in-Err-clause-does
returns-in-Err-clause-does g c wide within =
    let first = c.args.volume.now in
    let before = c.loop-turn.volume in
    let after = c.write_all.new.self in
    let so = c.loop-turn.invariant.written wide within in
    let types = c.loop-turn.invariant.types in
    let folder = c.loop-turn.invariant.folder in
    let bytes = c.unwrap_or-bytes.result.now in
    let bytes_are = part_got c.loop-turn.piece c.loop-turn.from c.loop-turn.to c.get.result _ c.unwrap_or-bytes.result refl c.unwrap_or-bytes.ensures so.within
    c.get.ensures.lookup.0 in
    let done = one_done (g.S.Store.types_of before.session.store) before.folder (g.S.Store.state_of before.session.store) (g.S.Store.state_of
    after.session.store)
    before.session.volume after.session.volume {A = Unit {0}} {E = LineFault} (writes c.args.block c.loop-turn.at bytes) (Ok tt)
    c.in_ok-write_all.ensures.does in
    whole_unread so c.loop-turn.auto.piece (whole_more so types folder bytes bytes_are done) c.if-to-piece.false (Err c.system.result) refl

pub loop-turn-preserved : goal.loop-turn-preserved
loop-turn-preserved g c =
    let write = c.write_all.ensures in
    let held = c.loop-turn.invariant in
    record {
      types = write.types ∙ held.types;
      folder = write.folder ∙ held.folder;
      told = write.told ∙ held.told;
      linked = held.linked;
      sources = held.sources;
      written = λ wide within.
          let first = c.args.volume.now in
          let before = c.loop-turn.volume in
          let after = c.write_all.new.self in
          let so = c.loop-turn.invariant.written wide within in
          let types = c.loop-turn.invariant.types in
          let folder = c.loop-turn.invariant.folder in
          let bytes = c.unwrap_or-bytes.result.now in
          let bytes_are = part_got c.loop-turn.piece c.loop-turn.from c.loop-turn.to c.get.result _ c.unwrap_or-bytes.result refl c.unwrap_or-bytes.ensures
          so.within
          c.get.ensures.lookup.0 in
          let done = one_done (g.S.Store.types_of before.session.store) before.folder (g.S.Store.state_of before.session.store) (g.S.Store.state_of
          after.session.store)
          before.session.volume after.session.volume {A = Unit {0}} {E = LineFault} (writes c.args.block c.loop-turn.at bytes) (Ok tt)
          c.in_ok-write_all.ensures.does in
          whole_goes so c.loop-turn.auto.piece (whole_more so types folder bytes bytes_are done) wide c.if-to-piece.false bytes bytes_are
          c.saturating_add-at.result c.saturating_add-at.ensures c.in-Ok.count c.read_piece.new.piece c.in-Ok.ensures;
    }

pub returns-clause-does : goal.returns-clause-does
returns-clause-does g c wide within = elim c.loop-turn-test.branch [
  | else-loop-turn-test w ↦
      let so = c.loop-turn.invariant.written wide within in
      let most : c.loop-turn._turn ≡ 2 ^ 64 - 1 = omega arith in
      let some : 0 < c.loop-turn._turn = omega arith in
      rw w.volume-is (whole_most LineFault so most some)
  | then-loop-turn-test+in_ok-write_all+then-to-piece w ↦
      let before = c.loop-turn.volume in
      let after = w.write_all.new.self in
      let so = c.loop-turn.invariant.written wide within in
      let bytes = w.unwrap_or-bytes.result.now in
      let bytes_are = part_got c.loop-turn.piece c.loop-turn.from c.loop-turn.to w.get.result _ w.unwrap_or-bytes.result refl w.unwrap_or-bytes.ensures
      so.within
      w.get.ensures.lookup.0 in
      let done = one_done (g.S.Store.types_of before.session.store) before.folder (g.S.Store.state_of before.session.store)
      (g.S.Store.state_of after.session.store) before.session.volume after.session.volume {A = Unit {0}} {E = LineFault} (writes c.args.block
      c.loop-turn.at bytes) (Ok tt)
      w.in_ok-write_all.ensures.does in
      rw w.volume-is
      (whole_ends so c.loop-turn.auto.piece (whole_more so c.loop-turn.invariant.types c.loop-turn.invariant.folder bytes bytes_are done) LineFault
      w.if-to-piece.true)
]
