use Rattle.std.proofs.Common.{ℕ, arith, inl, inr, subst}
use Rattle.tree_changes.specs.CopiedFolders.{Climbs}
use Rattle.tree_changes.specs.CopiedFolders.Climbs.{none, up}
use Rattle.tree_changes.proofs.copying.is_below.Goals as goal

pub loop-folder-init : goal.loop-folder-init
loop-folder-init g c = none

pub loop-folder-preserved : goal.loop-folder-preserved
loop-folder-preserved g c =
    up c.in_ok-number.number c.loop-folder.invariant c.if-number-above.false c.if-number-eq-TOP.false c.in_ok-number.ensures

pub returns-then-number-above : goal.returns-then-number-above
returns-then-number-above g c = (
  c.loop-folder._folder,
  subst (λ (n : ℕ). Climbs (g.V.View.leads c.args.view.now) c.args.above c.args.folder c.loop-folder._folder n) c.if-number-above.true
      c.loop-folder.invariant,
)

pub returns-then-number-eq-TOP : goal.returns-then-number-eq-TOP
returns-then-number-eq-TOP g c =
    (c.loop-folder._folder, c.loop-folder.number, c.loop-folder.invariant, inl (c.if-number-eq-TOP.true, c.if-number-above.false))

pub returns : goal.returns
returns g c = (c.loop-folder._folder, c.loop-folder.number, c.loop-folder.invariant, inr (omega arith))
