use Rattle.std.proofs.Common.{◌≡◌, ℕ, Bool, false, true, not, Result, Ok, Err, Option, Some, refl, subst, sym}
use Rattle.xn_model.specs.Lives.{StoreState}
use Rattle.xn_model.specs.Types.{Types}
use Rattle.tree_lines.specs.Values.{Volume}
use Rattle.tree_lines.specs.Answers.{Answers}
use Rattle.tree_lines.specs.declared.node.Node.{Node}
use Rattle.tree_changes.specs.CopiedFiles.{time_kept}
use Rattle.tree_changes.specs.CopiedTrees.{GivesTime}
use Rattle.tree_changes.specs.Files.{MtimeIfAny, MtimeIn}
use Rattle.tree_changes.specs.declared.copying.Into.{Into}
use Rattle.tree_changes.proofs.copying.leave_folder.Goals as goal

-- of a test that it is not so

unset : (b : Bool) → not b ≡ true → b ≡ false
unset true is = cc
unset false is = refl

set : (b : Bool) → not b ≡ false → b ≡ true
set true is = refl
set false is = cc

module _ (T : Types) (top : ℕ) (node : Node) (into : Into) where
  kept : (old : StoreState) (volume : Volume) → into.is_new ≡ false → GivesTime T top node (Some into) old old volume volume (Ok tt)
  kept old volume is =
      subst (λ (b : Bool). MtimeIfAny T top into.number (time_kept b node) old old volume volume (Ok tt)) (sym is) ((refl, refl), refl)

  given : {E : Type 0} (old new : StoreState) (volume volume' : Volume) (result : Result (Unit {0}) E) → into.is_new ≡ true →
      Answers (MtimeIn T top into.number node.modified old new volume volume') result →
      Answers (GivesTime T top node (Some into) old new volume volume') result
  given old new volume volume' (Ok done) is does =
      subst (λ (b : Bool). MtimeIfAny T top into.number (time_kept b node) old new volume volume' (Ok tt)) (sym is) does
  given old new volume volume' (Err told) is does = (
    does.0,
    subst (λ (b : Bool). MtimeIfAny T top into.number (time_kept b node) old new volume volume' (Err does.0)) (sym is) does.1,
  )

pub returns-in_default-clause-does : goal.returns-in_default-clause-does
returns-in_default-clause-does g c =
    let before = c.args.opened.now in
    let state = g.S.Store.state_of before.session.store in
    subst (λ (o : Option Into). GivesTime (g.S.Store.types_of before.session.store) before.folder c.args.left.0.now o state state before.session.volume
    before.session.volume (Ok tt)) (sym c.in_default.is) ((refl, refl), refl)

pub returns-then-not-into-clause-does : goal.returns-then-not-into-clause-does
returns-then-not-into-clause-does g c =
    let before = c.args.opened.now in
    let T = g.S.Store.types_of before.session.store in
    let state = g.S.Store.state_of before.session.store in
    let node = c.args.left.0.now in
    let into = c.in-Some.into in
    let stays : into.is_new ≡ false = unset into.is_new c.if-not-into.true in
    subst (λ (o : Option Into). GivesTime T before.folder node o state state before.session.volume before.session.volume (Ok tt)) (sym c.in-Some.is)
    (kept T before.folder node into state before.session.volume stays)

pub returns-clause-does : goal.returns-clause-does
returns-clause-does g c =
    let before = c.args.opened.now in
    let after = c.keep_time.new.opened in
    let T = g.S.Store.types_of before.session.store in
    let old = g.S.Store.state_of before.session.store in
    let new = g.S.Store.state_of after.session.store in
    let node = c.args.left.0.now in
    let into = c.in-Some.into in
    let made : into.is_new ≡ true = set into.is_new c.if-not-into.false in
    subst (λ (o : Option Into). Answers (GivesTime T before.folder node o old new before.session.volume after.session.volume) c.keep_time.result)
    (sym c.in-Some.is)
    (given T before.folder node into old new before.session.volume after.session.volume c.keep_time.result made c.keep_time.ensures.does)
