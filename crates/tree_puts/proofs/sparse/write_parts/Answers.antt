use Rattle.std.proofs.Common.{◌≡◌, ◌∙◌, ◌<◌, ◌^◌, ◌-◌, ℕ, List, Err, [], ap, arith, length, refl, take}
use Rattle.tree_lines.specs.declared.fault.Fault.{Fault as LineFault}
use Rattle.tree_puts.specs.Holes.{is_open_with}
use Rattle.tree_puts.proofs.Arrivals.{first_arriving, part_got}
use Rattle.tree_puts.proofs.HolePieces.{HolesWritten, end_failed, end_written, hole_ends, hole_goes, hole_more, hole_most, hole_stops, hole_unread, no_end}
use Rattle.tree_puts.proofs.Performed.{none_done}
use Rattle.tree_puts.proofs.sparse.write_parts.Goals as goal
use Rattle.tree_puts.proofs.sparse.write_parts.Goals.{else-is_open, else-loop-turn-test, then-is_open+in_ok-end_at}
use Rattle.tree_puts.proofs.sparse.write_parts.Goals.{then-loop-turn-test+in_ok-is_open+then-count-piece}

pub loop-turn-init : goal.loop-turn-init
loop-turn-init g c = record {
  types = refl;
  folder = refl;
  told = refl;
  linked = refl;
  sources = refl;
  written = λ wide within. record {
    before = [];
    arriving = first_arriving _ _;
    within = within;
    place = refl;
    left = refl;
    performed = none_done refl refl refl;
  };
}

pub returns-in_err-is_open-clause-does : goal.returns-in_err-is_open-clause-does
returns-in_err-is_open-clause-does g c wide within =
    let so = c.loop-turn.invariant.written wide within in
    let types = c.loop-turn.invariant.types in
    let folder = c.loop-turn.invariant.folder in
    let bytes = c.unwrap_or-bytes.result.now in
    let bytes_are = part_got c.loop-turn.piece 0 c.loop-turn.count c.get.result _ c.unwrap_or-bytes.result refl c.unwrap_or-bytes.ensures so.within
    c.get.ensures.lookup.0 in
    hole_stops so bytes bytes_are types folder c.in_err-is_open.ensures.does c.loop-turn.auto.piece c.from_residual.result c.from_residual.ensures.0

pub returns-in-Err-clause-does : goal.returns-in-Err-clause-does
returns-in-Err-clause-does g c wide within =
    let so = c.loop-turn.invariant.written wide within in
    let types = c.loop-turn.invariant.types in
    let folder = c.loop-turn.invariant.folder in
    let bytes = c.unwrap_or-bytes.result.now in
    let bytes_are = part_got c.loop-turn.piece 0 c.loop-turn.count c.get.result _ c.unwrap_or-bytes.result refl c.unwrap_or-bytes.ensures so.within
    c.get.ensures.lookup.0 in
    hole_unread so c.loop-turn.auto.piece (hole_more so bytes bytes_are types folder c.in_ok-is_open.ensures.does) c.if-count-piece.false
    (Err c.system.result) refl

pub loop-turn-preserved : goal.loop-turn-preserved
loop-turn-preserved g c =
    let write = c.write_next.ensures in
    let held = c.loop-turn.invariant in
    record {
      types = write.types ∙ held.types;
      folder = write.folder ∙ held.folder;
      told = write.told ∙ held.told;
      linked = held.linked;
      sources = held.sources;
      written = λ wide within.
          let so = c.loop-turn.invariant.written wide within in
          let types = c.loop-turn.invariant.types in
          let folder = c.loop-turn.invariant.folder in
          let bytes = c.unwrap_or-bytes.result.now in
          let bytes_are = part_got c.loop-turn.piece 0 c.loop-turn.count c.get.result _ c.unwrap_or-bytes.result refl c.unwrap_or-bytes.ensures so.within
          c.get.ensures.lookup.0 in
          let left = c.in_ok-is_open.ensures.left ∙ ap (λ (l : List ℕ). is_open_with c.loop-turn.is_open c.loop-turn.at l) bytes_are in
          hole_goes so c.loop-turn.auto.piece (hole_more so bytes bytes_are types folder c.in_ok-is_open.ensures.does) c.if-count-piece.false
          c.saturating_add-at.result c.saturating_add-at.ensures c.in_ok-is_open.is_open left c.in-Ok.count c.read_piece.new.piece c.in-Ok.ensures;
    }

pub returns-in_err-end_at-clause-does : goal.returns-in_err-end_at-clause-does
returns-in_err-end_at-clause-does g c wide within =
    let first = c.args.volume.now in
    let last = c.loop-turn-test.volume in
    let T = g.S.Store.types_of first.session.store in
    let types : g.S.Store.types_of last.session.store ≡ T = elim c.loop-turn-test.branch [
      | else-loop-turn-test w ↦ rw w.volume-is c.loop-turn.invariant.types
      | then-loop-turn-test+in_ok-is_open+then-count-piece w ↦ rw w.volume-is (w.write_next.ensures.types ∙ c.loop-turn.invariant.types)
    ] in
    let folder : last.folder ≡ first.folder = elim c.loop-turn-test.branch [
      | else-loop-turn-test w ↦ rw w.volume-is c.loop-turn.invariant.folder
      | then-loop-turn-test+in_ok-is_open+then-count-piece w ↦ rw w.volume-is (w.write_next.ensures.folder ∙ c.loop-turn.invariant.folder)
    ] in
    let so = c.loop-turn.invariant.written wide within in
    let all : HolesWritten T first.folder c.args.block (length c.args.piece.now) (take c.args.first c.args.piece.now) c.loop-turn-test.at
    c.loop-turn-test.is_open (g.S.Store.state_of first.session.store) (g.S.Store.state_of last.session.store) first.session.volume last.session.volume =
    elim c.loop-turn-test.branch [
      | else-loop-turn-test w ↦
          let most : c.loop-turn._turn ≡ 2 ^ 64 - 1 = omega arith in
          let some : 0 < c.loop-turn._turn = omega arith in
          rw (w.volume-is, w.at-is, w.is_open-is) (hole_most so most some)
      | then-loop-turn-test+in_ok-is_open+then-count-piece w ↦
          let bytes = w.unwrap_or-bytes.result.now in
          let bytes_are = part_got c.loop-turn.piece 0 c.loop-turn.count w.get.result _ w.unwrap_or-bytes.result refl w.unwrap_or-bytes.ensures so.within
          w.get.ensures.lookup.0 in
          let left = w.in_ok-is_open.ensures.left ∙ ap (λ (l : List ℕ). is_open_with c.loop-turn.is_open c.loop-turn.at l) bytes_are in
          let more = hole_more so bytes bytes_are c.loop-turn.invariant.types c.loop-turn.invariant.folder w.in_ok-is_open.ensures.does in
          rw (w.volume-is, w.at-is, w.is_open-is)
          (hole_ends so c.loop-turn.auto.piece more w.if-count-piece.true w.saturating_add-at.result w.saturating_add-at.ensures w.in_ok-is_open.is_open left)
    ] in
    end_failed all c.if-is_open.true types folder c.in_err-end_at.ensures.does c.from_residual-in_err-end_at.result c.from_residual-in_err-end_at.ensures.0

pub returns-clause-does : goal.returns-clause-does
returns-clause-does g c wide within =
    let first = c.args.volume.now in
    let last = c.loop-turn-test.volume in
    let T = g.S.Store.types_of first.session.store in
    let types : g.S.Store.types_of last.session.store ≡ T = elim c.loop-turn-test.branch [
      | else-loop-turn-test w ↦ rw w.volume-is c.loop-turn.invariant.types
      | then-loop-turn-test+in_ok-is_open+then-count-piece w ↦ rw w.volume-is (w.write_next.ensures.types ∙ c.loop-turn.invariant.types)
    ] in
    let folder : last.folder ≡ first.folder = elim c.loop-turn-test.branch [
      | else-loop-turn-test w ↦ rw w.volume-is c.loop-turn.invariant.folder
      | then-loop-turn-test+in_ok-is_open+then-count-piece w ↦ rw w.volume-is (w.write_next.ensures.folder ∙ c.loop-turn.invariant.folder)
    ] in
    let so = c.loop-turn.invariant.written wide within in
    let all : HolesWritten T first.folder c.args.block (length c.args.piece.now) (take c.args.first c.args.piece.now) c.loop-turn-test.at
    c.loop-turn-test.is_open (g.S.Store.state_of first.session.store) (g.S.Store.state_of last.session.store) first.session.volume last.session.volume =
    elim c.loop-turn-test.branch [
      | else-loop-turn-test w ↦
          let most : c.loop-turn._turn ≡ 2 ^ 64 - 1 = omega arith in
          let some : 0 < c.loop-turn._turn = omega arith in
          rw (w.volume-is, w.at-is, w.is_open-is) (hole_most so most some)
      | then-loop-turn-test+in_ok-is_open+then-count-piece w ↦
          let bytes = w.unwrap_or-bytes.result.now in
          let bytes_are = part_got c.loop-turn.piece 0 c.loop-turn.count w.get.result _ w.unwrap_or-bytes.result refl w.unwrap_or-bytes.ensures so.within
          w.get.ensures.lookup.0 in
          let left = w.in_ok-is_open.ensures.left ∙ ap (λ (l : List ℕ). is_open_with c.loop-turn.is_open c.loop-turn.at l) bytes_are in
          let more = hole_more so bytes bytes_are c.loop-turn.invariant.types c.loop-turn.invariant.folder w.in_ok-is_open.ensures.does in
          rw (w.volume-is, w.at-is, w.is_open-is)
          (hole_ends so c.loop-turn.auto.piece more w.if-count-piece.true w.saturating_add-at.result w.saturating_add-at.ensures w.in_ok-is_open.is_open left)
    ] in
    elim c.if-is_open.branch [
      | then-is_open+in_ok-end_at w ↦ rw w.volume-is (end_written all LineFault w.if-is_open.true types folder w.in_ok-end_at.ensures.does)
      | else-is_open w ↦ rw w.volume-is (no_end all LineFault w.if-is_open.false)
    ]
