-- What words do below a folder: one step more, and the end.
use Rattle.std.proofs.Common.{◌≡◌, ◌∙◌, ℕ, ◌+◌, true, List, Result, Ok, Err, inl, inr, refl, subst, sym}
use Rattle.std.specs.Prelude.{IfErr, IsErr, MatchResult}
use Rattle.xn_model.specs.Lives.{StoreState}
use Rattle.xn_model.specs.Types.{Types}
use Rattle.treefs_model.specs.declared.fault.Fault.{Fault}
use Rattle.tree_lines.specs.Values.{Volume}
use Rattle.tree_lines.specs.Answers.{Answers}
use Rattle.tree_lines.specs.Places.{IsFolder}
use Rattle.tree_lines.specs.Telling.{EndsLine, GoesOn, PassesOn}
use Rattle.tree_lines.specs.Trees.{ComesIn, IsNodeIn}
use Rattle.tree_lines.specs.Walks.{IsUnmet, Met, Progress, begun}
use Rattle.tree_lines.specs.Walks.Outcome.{Meets}
use Rattle.tree_lines.specs.declared.fault.Fault.{Fault as LineFault}
use Rattle.tree_lines.specs.declared.node.Node.{Node}
use Rattle.tree_lines.specs.declared.told.Told.{Told}
use Rattle.tree_changes.specs.Attributes.{SetsIfAny, set_of}
use Rattle.tree_changes.specs.Below.{SetsAll, SetsBelow, SetsEach, SetsTreeAt, SetsUpTo, TellsIfAny}
use Rattle.tree_changes.specs.Below.GoesThrough.{more, none}
use Rattle.tree_changes.specs.declared.setting.Setting.{Setting}

-- what was done is told, or it ends the line

module _ (Does : Result (Unit {0}) Fault → Type 0) (told told1 told' : Told) (told_is : told1 ≡ told) where
  told_so : (fault : LineFault) (answer : Result (Unit {0}) LineFault) → PassesOn told1 told' fault answer → answer ≡ Ok tt → PassesOn told told' fault (Ok tt)
  told_so fault answer passes ok =
      subst (λ (t : Told). PassesOn t told' fault (Ok tt)) told_is (subst (λ (r : Result (Unit {0}) LineFault). PassesOn told1 told' fault r) ok passes)

  pub told_if_any : (done answer : Result (Unit {0}) LineFault) → Answers Does done → GoesOn told1 told' done answer → answer ≡ Ok tt →
      TellsIfAny Does told told'
  told_if_any (Ok made) answer does goes ok = inl (does, goes.1 ∙ told_is)
  told_if_any (Err fault) answer does goes ok = let passed = told_so fault answer goes ok in inr (does.0, fault, does.1, passed.0, passed.1)

  pub refused_there : (done answer : Result (Unit {0}) LineFault) (ends : LineFault) → Answers Does done → GoesOn told1 told' done answer → answer ≡ Err ends →
      (fault : Fault) × Does (Err fault)
  refused_there (Ok made) answer ends does goes err = let ok = goes.0 in cc
  refused_there (Err fault) answer ends does goes err = does

-- `chmod` and `chown`

pub is_err : {E : Type 0} (Done Left : Type 0) (result : Result (Unit {0}) E) → IsErr result → Left → MatchResult result (λ done. Done) (λ fault. Left)
is_err Done Left (Ok done) err left = cc
is_err Done Left (Err fault) err left = left

module _ (setting : Setting) (T : Types) (top : ℕ) (path : List ℕ) (number : ℕ) (told0 : Told) (old : StoreState) (volume0 : Volume) where
  pub none_set : (far : Progress) → far ≡ begun path number → SetsEach setting T top (begun path number) told0 old volume0 0 far told0 old volume0
  none_set far is = subst (λ (f : Progress). SetsEach setting T top (begun path number) told0 old volume0 0 f told0 old volume0) (sym is) none

  -- the walk has no memory
  pub not_begun : {E : Type 0} (told' : Told) (result : Result (Unit {0}) E) → IsErr result →
      SetsBelow setting T top path number told0 told' old old volume0 volume0 result
  not_begun told' result err =
      is_err (SetsAll setting T top path number told0 told' old old volume0 volume0) (SetsUpTo setting T top path number told0 old old volume0 volume0)
      result err
      (0, begun path number, told0, old, volume0, none, inl (refl, refl))

  module _ (steps : ℕ) (far : Progress) (told : Told) (state : StoreState) (volume : Volume)
      (each : SetsEach setting T top (begun path number) told0 old volume0 steps far told state volume) where
    pub not_further : {E : Type 0} (told' : Told) (result : Result (Unit {0}) E) → IsErr result →
        SetsBelow setting T top path number told0 told' old state volume0 volume result
    not_further told' result err =
        is_err (SetsAll setting T top path number told0 told' old state volume0 volume) (SetsUpTo setting T top path number told0 old state volume0 volume)
        result err (steps, far, told, state, volume, each, inl (refl, refl))

    module _ (types : Types) (folder : ℕ) (types_is : types ≡ T) (folder_is : folder ≡ top) (far' : Progress) (told1 told2 told' : Told) (met : Met)
        (comes : ComesIn state volume IsUnmet far told far' told1 (Meets met)) (new : StoreState) (volume' : Volume)
        (done answer : Result (Unit {0}) LineFault)
        (does : Answers (SetsIfAny types folder met.node.number (set_of setting met.node) state new volume volume') done)
        (told_is : told2 ≡ told1) (goes : GoesOn told2 told' done answer) where
      does_so : Answers (SetsIfAny T top met.node.number (set_of setting met.node) state new volume volume') done
      does_so =
          subst (λ (n : ℕ). Answers (SetsIfAny T n met.node.number (set_of setting met.node) state new volume volume') done) folder_is
          (subst (λ (t : Types). Answers (SetsIfAny t folder met.node.number (set_of setting met.node) state new volume volume') done) types_is does)

      pub one_set : answer ≡ Ok tt → SetsEach setting T top (begun path number) told0 old volume0 (steps + 1) far' told' new volume'
      one_set ok =
          more far told told1 tt state volume (Meets met) each comes
          (told_if_any (SetsIfAny T top met.node.number (set_of setting met.node) state new volume volume') told1 told2 told' told_is done answer does_so
          goes ok)

      pub set_ends : {E : Type 0} (ends : LineFault) (result : Result (Unit {0}) E) → answer ≡ Err ends → IsErr result →
          SetsBelow setting T top path number told0 told' old new volume0 volume' result
      set_ends ends result wrong err =
          let refused = refused_there (SetsIfAny T top met.node.number (set_of setting met.node) state new volume volume') told1 told2 told' told_is done answer
          ends does_so goes wrong in
          is_err (SetsAll setting T top path number told0 told' old new volume0 volume') (SetsUpTo setting T top path number told0 old new volume0 volume')
          result err (steps, far, told, state, volume, each, inr (refused.0, (far', told1, met, comes, refused.1)))

-- of what stands at a path, and of all below it

module _ (setting : Setting) (T types : Types) (top folder : ℕ) (types_is : types ≡ T) (folder_is : folder ≡ top) (path : List ℕ)
    (told told1 told' : Told) (told_is : told1 ≡ told) (old middle new : StoreState) (volume between volume' : Volume) (node : Node)
    (there : IsNodeIn old volume top path true node)
    (set : SetsIfAny T top node.number (set_of setting node) old middle volume between (Ok tt)) (is : IsFolder node) where
  below_so : (result : Result (Unit {0}) LineFault) → SetsBelow setting types folder path node.number told1 told' middle new between volume' result →
      SetsBelow setting T top path node.number told told' middle new between volume' result
  below_so result below =
      subst (λ (t : Told). SetsBelow setting T top path node.number t told' middle new between volume' result) told_is
      (subst (λ (n : ℕ). SetsBelow setting T n path node.number told1 told' middle new between volume' result) folder_is
      (subst (λ (t : Types). SetsBelow setting t folder path node.number told1 told' middle new between volume' result) types_is below))

  tree_there : (result : Result (Unit {0}) LineFault) → IfErr result EndsLine →
      SetsBelow setting T top path node.number told told' middle new between volume' result →
      SetsTreeAt setting T top path told told' old new volume volume' result
  tree_there (Ok done) ends all = (node, middle, between, there, set, inr (is, all))
  tree_there (Err fault) ends some = inr (node, middle, between, there, set, is, some, ends)

  pub tree_set : (result : Result (Unit {0}) LineFault) → IfErr result EndsLine →
      SetsBelow setting types folder path node.number told1 told' middle new between volume' result →
      SetsTreeAt setting T top path told told' old new volume volume' result
  tree_set result ends below = tree_there result ends (below_so result below)
