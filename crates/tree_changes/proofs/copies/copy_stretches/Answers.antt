use Rattle.std.proofs.Common.{◌≡◌, ◌∙◌, ℕ, ◌<◌, Option, Some, arith, inl, length, refl, rules, subst}
use Rattle.tree_changes.specs.Copies.{CopiesNext, LeavesStretch}
use Rattle.tree_changes.proofs.CopiedBytes.{failed_at, left_there, none_behind, none_copied, one_more}
use Rattle.tree_changes.proofs.copies.copy_stretches.Goals as goal
use Rattle.tree_changes.proofs.copies.copy_stretches.Goals.{in_default-via-in-Some+else-behind-at, in_default-via-in_default}

pub loop-stretch-init : goal.loop-stretch-init
loop-stretch-init g c =
    let opened = c.args.opened.now in
    record {
      types = refl;
      folder = refl;
      told = refl;
      far = omega arith;
      copies = none_copied (g.S.Store.types_of opened.session.store) opened.folder (length c.args.piece.now) c.args.copied.now.node.number c.args.block 384
          (g.S.Store.state_of opened.session.store) opened.session.volume;
    }

pub loop-stretch-preserved : goal.loop-stretch-preserved
loop-stretch-preserved g c =
    let first = c.args.opened.now in
    let before = c.loop-stretch.opened in
    let after = c.copy_stretch.new.opened in
    let types = g.S.Store.types_of before.session.store in
    let old = g.S.Store.state_of first.session.store in
    let middle = g.S.Store.state_of before.session.store in
    let new = g.S.Store.state_of after.session.store in
    let node = c.args.copied.now.node in
    let kept = c.loop-stretch.invariant in
    let done = c.in_ok-behind.ensures in
    let same : length c.loop-stretch.piece ≡ length c.args.piece.now = c.loop-stretch.auto.piece in
    let next = subst (λ (most : ℕ). CopiesNext types before.folder most node.number c.args.block c.loop-stretch.at middle new before.session.volume
    after.session.volume (Some c.in-Some.behind)) same
    (subst (λ (o : Option ℕ). CopiesNext types before.folder (length c.loop-stretch.piece) node.number c.args.block c.loop-stretch.at middle new
    before.session.volume after.session.volume o) c.in-Some.is done.does) in
    record {
      types = done.types ∙ kept.types;
      folder = done.folder ∙ kept.folder;
      told = done.told ∙ kept.told;
      far = omega (arith, c.if-behind-at.true, kept.far);
      copies = one_more (g.S.Store.types_of first.session.store) types first.folder before.folder kept.types kept.folder (length c.args.piece.now) c.args.block
          node c.loop-stretch.at old middle new first.session.volume before.session.volume after.session.volume kept.copies c.in-Some.behind next;
    }

pub returns-in_err-behind-clause-does : goal.returns-in_err-behind-clause-does
returns-in_err-behind-clause-does g c =
    let first = c.args.opened.now in
    let before = c.loop-stretch.opened in
    let after = c.copy_stretch.new.opened in
    let types = g.S.Store.types_of before.session.store in
    let old = g.S.Store.state_of first.session.store in
    let middle = g.S.Store.state_of before.session.store in
    let new = g.S.Store.state_of after.session.store in
    let node = c.args.copied.now.node in
    let kept = c.loop-stretch.invariant in
    let same : length c.loop-stretch.piece ≡ length c.args.piece.now = c.loop-stretch.auto.piece in
    let left = subst (λ (most : ℕ). LeavesStretch types before.folder most node.number c.args.block c.loop-stretch.at middle new before.session.volume
    after.session.volume) same c.in_err-behind.ensures.does in
    failed_at _ _ c.from_residual.result c.from_residual.ensures.0
    (left_there (g.S.Store.types_of first.session.store) types first.folder before.folder kept.types kept.folder (length c.args.piece.now) c.args.block
    node c.loop-stretch.at old middle new first.session.volume before.session.volume after.session.volume kept.copies left)

pub returns-in_default-clause-does : goal.returns-in_default-clause-does
returns-in_default-clause-does g c =
    let first = c.args.opened.now in
    let before = c.loop-stretch.opened in
    let after = c.copy_stretch.new.opened in
    let types = g.S.Store.types_of before.session.store in
    let old = g.S.Store.state_of first.session.store in
    let middle = g.S.Store.state_of before.session.store in
    let new = g.S.Store.state_of after.session.store in
    let node = c.args.copied.now.node in
    let kept = c.loop-stretch.invariant in
    let same : length c.loop-stretch.piece ≡ length c.args.piece.now = c.loop-stretch.auto.piece in
    let found = c.in_ok-behind.field-0 in
    let next = subst (λ (most : ℕ). CopiesNext types before.folder most node.number c.args.block c.loop-stretch.at middle new before.session.volume
    after.session.volume found) same c.in_ok-behind.ensures.does in
    let goes : (behind : ℕ) → found ≡ Some behind → c.loop-stretch.at < behind → ⊥ = elim c.in_default.branch [
      | in_default-via-in-Some+else-behind-at w ↦ λ behind is up.
          let one : w.in-Some.behind ≡ behind = let so = w.in-Some.is in cc in
          omega (arith, w.if-behind-at.false, one, up)
      | in_default-via-in_default w ↦ λ behind is up. search (rules, w.in_default.not-Some)
    ] in
    none_behind (g.S.Store.types_of first.session.store) types first.folder before.folder kept.types kept.folder (length c.args.piece.now) c.args.block
    node c.loop-stretch.at old middle new first.session.volume before.session.volume after.session.volume kept.copies found goes next

pub returns-clause-does : goal.returns-clause-does
returns-clause-does g c =
    let far = c.loop-stretch.invariant.far in
    (c.loop-stretch.invariant.copies, inl (omega (arith, far, c.loop-stretch-test.false)))
