-- `rm` below a folder: one step more, and the end.
use Rattle.std.proofs.Common.{◌≡◌, ◌∙◌, ℕ, ◌+◌, ◌-◌, ◌^◌, Bool, true, false, not, List, Result, Ok, Err, ap, arith, inl, inr, refl, subst, sym}
use Rattle.std.specs.Prelude.{IsErr, MatchResult, ◌&&◌, nat_lt}
use Rattle.std.proofs.lemmas.Bool.{le-ltb}
use Rattle.xn_model.specs.Lives.{StoreState}
use Rattle.xn_model.specs.Types.{Types}
use Rattle.treefs_model.specs.declared.fault.Fault.{Fault}
use Rattle.tree_lines.specs.Values.{Volume}
use Rattle.tree_lines.specs.Answers.{Answers}
use Rattle.tree_lines.specs.Places.{IsFolder}
use Rattle.tree_lines.specs.Telling.{count_of}
use Rattle.tree_lines.specs.Trees.{ComesIn}
use Rattle.tree_lines.specs.Walks.{IsUnseen, Met, Progress, begun}
use Rattle.tree_lines.specs.Walks.Outcome.{Ends}
use Rattle.tree_lines.specs.declared.fault.Fault.{Fault as LineFault}
use Rattle.tree_lines.specs.declared.told.Told.{Told}
use Rattle.tree_changes.specs.Emptying.{Empties, EmptiesUpTo, KeepsTree, RemovesEach, RemovesMet, RemovesTree, RemovesVisited}
use Rattle.tree_changes.specs.Emptying.{TakesIfAny, TakesName, still_whole, visit_outcome}
use Rattle.tree_changes.specs.Below.GoesThrough.{more, none}
use Rattle.tree_changes.specs.Folders.{RmdirIn}
use Rattle.tree_changes.specs.Paths.{IsSame}

pub err_there : {E : Type 0} (Done : Bool → Type 0) (Left : Type 0) (result : Result Bool E) → IsErr result → Left →
    MatchResult result Done (λ fault. Left)
err_there Done Left (Ok done) err left = cc
err_there Done Left (Err fault) err left = left

removes_so : (T : Types) (top : ℕ) (behind : Bool) (met : Met) (before told told' : Told) (whole whole' : Bool) (old new : StoreState)
    (volume volume' : Volume) → RemovesMet T top behind met before told told' whole whole' old new volume volume' →
    RemovesVisited T top (visit_outcome behind met) before told told' whole whole' old new volume volume'
removes_so T top true met before told told' whole whole' old new volume volume' removes = removes
removes_so T top false met before told told' whole whole' old new volume volume' removes = removes

-- whether all is still removed

pub seen_whole : (whole whole' unseen : Bool) (told told' : Told) → unseen ≡ nat_lt (count_of told) (count_of told') → whole ≡ true → whole' ≡ not unseen →
    whole' ≡ still_whole whole told told'
seen_whole whole whole' unseen told told' unseen_is is so =
    so ∙ (ap not unseen_is ∙ ap (λ b. b && not (nat_lt (count_of told) (count_of told'))) (sym is))

pub never_whole : (whole whole' : Bool) (told told' : Told) → whole ≡ false → whole' ≡ whole → whole' ≡ still_whole whole told told'
never_whole whole whole' told told' is so =
    so ∙ (is ∙ ap (λ b. b && not (nat_lt (count_of told) (count_of told'))) (sym is))

same_whole : (whole : Bool) (told : Told) → whole ≡ still_whole whole told told
same_whole false told = refl
same_whole true told = sym (ap not (le-ltb (count_of told) (count_of told) (omega arith)))

module _ (T : Types) (top : ℕ) (path : List ℕ) (number : ℕ) (told0 : Told) (old : StoreState) (volume0 : Volume) where
  pub none_removed : (far : Progress) → far ≡ begun path number → RemovesEach T top (begun path number) told0 old volume0 0 far told0 true old volume0
  none_removed far is = subst (λ (f : Progress). RemovesEach T top (begun path number) told0 old volume0 0 f told0 true old volume0) (sym is) none

  pub not_begun : EmptiesUpTo T top path number told0 old old volume0 volume0
  not_begun = (0, begun path number, told0, true, old, volume0, none, inl (refl, refl))

  module _ (steps : ℕ) (far : Progress) (told : Told) (whole : Bool) (state : StoreState) (volume : Volume)
      (each : RemovesEach T top (begun path number) told0 old volume0 steps far told whole state volume) where
    -- the walk goes no further
    pub not_further : (new : StoreState) (volume' : Volume) → IsSame state new volume volume' → EmptiesUpTo T top path number told0 old new volume0 volume'
    not_further new volume' same = (steps, far, told, whole, state, volume, each, inl same)

    pub ended : (far' : Progress) (told' : Told) (whole' : Bool) (new : StoreState) (volume' : Volume) → IsSame state new volume volume' →
        ComesIn state volume IsUnseen far told far' told' Ends → whole' ≡ still_whole whole told told' →
        Empties T top path number whole' told0 told' old new volume0 volume'
    ended far' told' whole' new volume' same comes so =
        subst (λ (s : StoreState). Empties T top path number whole' told0 told' old s volume0 volume') (sym same.0)
        (subst (λ (v : Volume). Empties T top path number whole' told0 told' old state volume0 v) (sym same.1)
        (steps, far, told, whole, each, inl (far', comes), so))

    pub passed : steps ≡ 2 ^ 64 - 1 → Empties T top path number whole told0 told old state volume0 volume
    passed all = (steps, far, told, whole, each, inr (all, refl), same_whole whole told)

    module _ (far' : Progress) (told1 : Told) (behind : Bool) (met : Met) (between : StoreState) (volume1 : Volume) (same : IsSame state between volume volume1)
        (comes : ComesIn state volume IsUnseen far told far' told1 (visit_outcome behind met)) (whole1 : Bool)
        (whole_is : whole1 ≡ still_whole whole told told1) where
      -- a folder is gone into
      pub gone_in : IsFolder met.node → behind ≡ false → RemovesEach T top (begun path number) told0 old volume0 (steps + 1) far' told1 whole1 between volume1
      gone_in folder first =
          more far told told1 whole state volume (visit_outcome behind met) each comes
          (removes_so T top behind met told told1 told1 whole whole1 state between volume volume1 (inl (folder, first, same, refl, whole_is)))

      module _ (types : Types) (folder : ℕ) (types_is : types ≡ T) (folder_is : folder ≡ top) (new : StoreState) (volume' : Volume) where
        takes_so : (P : (Result (Unit {0}) Fault → Type 0) → Type 0) → P (TakesName types folder behind met.folder met.name between new volume1 volume') →
            P (TakesName T top behind met.folder met.name state new volume volume')
        takes_so P h =
            subst (λ (s : StoreState). P (TakesName T top behind met.folder met.name s new volume volume')) same.0
            (subst (λ (v : Volume). P (TakesName T top behind met.folder met.name between new v volume')) same.1
            (subst (λ (n : ℕ). P (TakesName T n behind met.folder met.name between new volume1 volume')) folder_is
            (subst (λ (t : Types). P (TakesName t folder behind met.folder met.name between new volume1 volume')) types_is h)))

        pub one_taken : (told' : Told) (removed whole' : Bool) → ¬ (IsFolder met.node × (behind ≡ false)) →
            TakesIfAny (TakesName types folder behind met.folder met.name between new volume1 volume') whole1 told1 told' removed →
            whole' ≡ (whole1 && removed) → RemovesEach T top (begun path number) told0 old volume0 (steps + 1) far' told' whole' new volume'
        one_taken told' removed whole' other takes so =
            let takes_there = takes_so (λ Does. TakesIfAny Does whole1 told1 told' removed) takes in
            let takes_whole = subst (λ (b : Bool). TakesIfAny (TakesName T top behind met.folder met.name state new volume volume') b told1 told' removed)
            whole_is takes_there in
            more far told told1 whole state volume (visit_outcome behind met) each comes
            (removes_so T top behind met told told1 told' whole whole' state new volume volume'
            (inr (other, removed, takes_whole, so ∙ ap (λ b. b && removed) whole_is)))

        pub ends_taking : (fault : Fault) → TakesName types folder behind met.folder met.name between new volume1 volume' (Err fault) →
            EmptiesUpTo T top path number told0 old new volume0 volume'
        ends_taking fault takes = (
          steps,
          far,
          told,
          whole,
          state,
          volume,
          each,
          inr (fault, (far', told1, behind, met, comes, takes_so (λ Does. Does (Err fault)) takes)),
        )

-- and then the folder itself

module _ (T types : Types) (top folder : ℕ) (types_is : types ≡ T) (folder_is : folder ≡ top) (path : List ℕ) (number directory : ℕ) (name : List ℕ)
    (told told1 told' : Told) (told_is : told' ≡ told1) (old middle new : StoreState) (volume between volume' : Volume) (whole : Bool) (is : whole ≡ true)
    (empties : Empties T top path number whole told told1 old middle volume between) where
  empties_so : Empties T top path number true told told' old middle volume between
  empties_so =
      subst (λ (t : Told). Empties T top path number true told t old middle volume between) (sym told_is)
      (subst (λ (b : Bool). Empties T top path number b told told1 old middle volume between) is empties)

  rmdir_so : (result : Result (Unit {0}) Fault) → RmdirIn types folder directory name middle new between volume' result →
      RmdirIn T top directory name middle new between volume' result
  rmdir_so result rmdir =
      subst (λ (n : ℕ). RmdirIn T n directory name middle new between volume' result) folder_is
      (subst (λ (t : Types). RmdirIn t folder directory name middle new between volume' result) types_is rmdir)

  pub tree_removed : (result : Result (Unit {0}) LineFault) → Answers (RmdirIn types folder directory name middle new between volume') result →
      MatchResult result (λ done. RemovesTree T top path number directory name told told' old new volume volume')
      (λ line. KeepsTree T top path number directory name line told told' old new volume volume')
  tree_removed (Ok done) rmdir = (true, middle, between, empties_so, inl (refl, rmdir_so (Ok tt) rmdir))
  tree_removed (Err fault) rmdir = inr (middle, between, rmdir.0, empties_so, rmdir_so (Err rmdir.0) rmdir.1)
