-- A copy gets one more name, at once or beside the place of what has it.
use Rattle.std.proofs.Common.{◌≡◌, ℕ, true, false, List, Option, None, Some, Result, Ok, Err, inl, inr, subst}
use Rattle.std.specs.Prelude.{MatchResult, is_none, is_some}
use Rattle.std.specs.Result.{is_err}
use Rattle.xn_model.specs.Lives.{StoreState}
use Rattle.xn_model.specs.Types.{Types}
use Rattle.treefs_model.specs.declared.fault.Fault.{Fault}
use Rattle.tree_lines.specs.Values.{Volume}
use Rattle.tree_lines.specs.Answers.{Answers}
use Rattle.tree_lines.specs.Places.{IsThere}
use Rattle.tree_lines.specs.Trees.{IsThereIn}
use Rattle.tree_lines.specs.declared.node.Node.{Node}
use Rattle.tree_lines.specs.declared.reason.Reason.{Reason}
use Rattle.tree_changes.specs.MoreNames.{MovesOver, PutsName}
use Rattle.tree_changes.specs.Moving.{RenameIn}
use Rattle.tree_changes.specs.Naming.{LinkIn}
use Rattle.tree_changes.specs.Paths.{IsRefused}
use Rattle.tree_changes.specs.Removing.{UnlinkIn}
use Rattle.tree_changes.proofs.CopiedBytes.{as_first}

-- what has a name, if something has

module _ (Names : ℕ → List ℕ → Result ℕ Reason → Type 0) (Shows : ℕ → Result Node Reason → Type 0) (folder : ℕ) where
  pub nothing_there : (name bytes : List ℕ) (other : Option Node) → IsThere Names Shows folder bytes other → is_none other ≡ true → bytes ≡ name →
      IsThere Names Shows folder name None
  nothing_there name bytes None there is same = subst (λ (n : List ℕ). IsThere Names Shows folder n None) same there
  nothing_there name bytes (Some node) there is same = cc

module _ (state : StoreState) (volume : Volume) (directory : ℕ) (name : List ℕ) where
  pub none_there : (other : Option Node) → IsThereIn state volume directory name other → is_some other ≡ false → IsThereIn state volume directory name None
  none_there None there is = there
  none_there (Some node) there is = cc

  pub some_there : (other : Option Node) → IsThereIn state volume directory name other → is_some other ≡ true →
      (node : Node) × IsThereIn state volume directory name (Some node)
  some_there None there is = cc
  some_there (Some node) there is = (node, there)

pub some_answer : {A E : Type 0} (Does : Result A Fault → Type 0) (result : Result A E) → Answers Does result → (answer : Result A Fault) × Does answer
some_answer Does (Ok made) does = (Ok made, does)
some_answer Does (Err told) does = (Err does.0, does.1)

-- at once

module _ {E : Type 0} (T : Types) (folder number directory : ℕ) (name : List ℕ) (old new : StoreState) (volume volume' : Volume) where
  pub put_free : (result : Result (Unit {0}) E) → IsThereIn old volume directory name None →
      Answers (LinkIn T folder number directory name old new volume volume') result →
      MatchResult result (λ done. PutsName T folder number directory name old new volume volume' (Ok tt))
      (λ told. IsRefused (PutsName T folder number directory name old new volume volume') old new volume volume')
  put_free (Ok done) free does = inl (free, does)
  put_free (Err told) free does = inr (does.0, inl (free, does.1))

-- beside it first

module _ (T types : Types) (top folder : ℕ) (types_are : types ≡ T) (folder_is : folder ≡ top) (number directory : ℕ) (name beside : List ℕ) (other : Node)
    (old middle new : StoreState) (volume between volume' : Volume) (there : IsThereIn old volume directory name (Some other))
    (free : IsThereIn old volume directory beside None) where
  pub unlinked : (fault : Fault) → LinkIn T top number directory beside old middle volume between (Err fault) →
      IsRefused (PutsName T top number directory name old middle volume between) old middle volume between
  unlinked fault link = inr (fault, inr (other, there, (beside, free, inl link)))

  pub put_over : (result : Result (Unit {0}) Fault) → LinkIn T top number directory beside old middle volume between (Ok tt) →
      MovesOver types folder directory beside name middle new between volume' result → PutsName T top number directory name old new volume volume' result
  put_over result link moves =
      inr (
        other,
        there,
        (
          beside,
          free,
          inr (
            middle,
            between,
            link,
            as_first (λ t n. MovesOver t n directory beside name middle new between volume' result) T types top folder types_are folder_is moves,
          ),
        ),
      )

-- what is answered of the move, and a name that is taken away again
module _ {E : Type 0} (T types : Types) (top folder : ℕ) (types_are : types ≡ T) (folder_is : folder ≡ top) (number directory : ℕ) (name beside : List ℕ)
    (other : Node) (old middle new : StoreState) (volume between volume' : Volume) (there : IsThereIn old volume directory name (Some other))
    (free : IsThereIn old volume directory beside None) (link : LinkIn T top number directory beside old middle volume between (Ok tt))
    (result : Result (Unit {0}) E) where
  over : (answer : Result (Unit {0}) Fault) → MovesOver types folder directory beside name middle new between volume' answer →
      PutsName T top number directory name old new volume volume' answer
  over answer moves =
      put_over T types top folder types_are folder_is number directory name beside other old middle new volume between volume' there free answer link moves

  pub moved_there : is_err result ≡ false → Answers (RenameIn types folder directory beside directory name middle new between volume') result →
      MatchResult result (λ done. PutsName T top number directory name old new volume volume' (Ok tt))
      (λ told. IsRefused (PutsName T top number directory name old new volume volume') old new volume volume')
  moved_there ok does = as_over result ok does
    where
      as_over : (r : Result (Unit {0}) E) → is_err r ≡ false → Answers (RenameIn types folder directory beside directory name middle new between volume') r →
          MatchResult r (λ done. PutsName T top number directory name old new volume volume' (Ok tt))
          (λ told. IsRefused (PutsName T top number directory name old new volume volume') old new volume volume')
      as_over (Ok done) ok does = over (Ok tt) does
      as_over (Err told) ok does = cc

  -- types1, folder1: once the move was refused
  pub taken_back : (types1 : Types) (folder1 : ℕ) (refused : StoreState) (then : Volume) → types1 ≡ types → folder1 ≡ folder → is_err result ≡ true →
      Answers (RenameIn types folder directory beside directory name middle refused between then) result →
      ((taken : Result (Unit {0}) Fault) × UnlinkIn types1 folder1 directory beside refused new then volume' taken) →
      MatchResult result (λ done. PutsName T top number directory name old new volume volume' (Ok tt))
      (λ told. IsRefused (PutsName T top number directory name old new volume volume') old new volume volume')
  taken_back types1 folder1 refused then types1_are folder1_is err does taken = as_back result err does
    where
      as_back : (r : Result (Unit {0}) E) → is_err r ≡ true → Answers (RenameIn types folder directory beside directory name middle refused between then) r →
          MatchResult r (λ done. PutsName T top number directory name old new volume volume' (Ok tt))
          (λ told. IsRefused (PutsName T top number directory name old new volume volume') old new volume volume')
      as_back (Ok done) err does = cc
      as_back (Err told) err does =
          let unlink = as_first (λ t n. UnlinkIn t n directory beside refused new then volume' taken.0) types types1 folder folder1 types1_are
          folder1_is taken.1 in
          inr (does.0, over (Err does.0) (refused, then, taken.0, does.1, unlink))
