-- What is copied is kept, or was kept and gets one more name.
use Rattle.std.proofs.Common.{◌≡◌, ℕ, ℤ, Bool, true, false, List, Option, None, Some, Result, Ok, Err, inr, refl, subst, sym}
use Rattle.std.specs.Prelude.{MatchOption, MatchResult}
use Rattle.xn_model.specs.Lives.{StoreState}
use Rattle.xn_model.specs.Types.{Types}
use Rattle.treefs_model.specs.declared.fault.Fault.{Fault}
use Rattle.tree_lines.specs.Values.{Volume}
use Rattle.tree_lines.specs.Answers.{Answers}
use Rattle.tree_lines.specs.declared.node.Node.{Node}
use Rattle.tree_changes.specs.CopiedFiles.{CopiesFile, CopiesFirst, LeavesFile, LeavesFirst, time_kept}
use Rattle.tree_changes.specs.Copies.{Copies}
use Rattle.tree_changes.specs.Files.{MtimeIfAny, MtimeIn}
use Rattle.tree_changes.specs.KeptCopies.{Keeps, KeepsSame, copy_kept, is_kept, kept_in}
use Rattle.tree_changes.specs.MoreNames.{PutsName}
use Rattle.tree_changes.specs.Paths.{IsRefused}
use Rattle.tree_changes.specs.declared.copies.Copying.{Copying}
use Rattle.tree_changes.proofs.CopiedBytes.{as_first}

-- what is kept, where nothing was kept or forgotten before
module _ (old middle new : Copying) (same : KeepsSame old middle) (recursive : middle.is_recursive ≡ old.is_recursive) (node : Node) (number : ℕ) where
  kept_is : is_kept middle node ≡ is_kept old node
  kept_is = rw recursive refl

  keeps_since : Keeps middle new node number → Keeps old new node number
  keeps_since keeps = record {
    copied = subst (λ (k : Bool). new.copied.entries ≡ kept_in k old.copied.entries node.number number) kept_is
        (subst (λ (es : List (ℕ × ℕ)). new.copied.entries ≡ kept_in (is_kept middle node) es node.number number) same.0 keeps.copied);
    sources = subst (λ (k : Bool). new.sources.entries ≡ kept_in k old.sources.entries number node.number) kept_is
        (subst (λ (es : List (ℕ × ℕ)). new.sources.entries ≡ kept_in (is_kept middle node) es number node.number) same.1 keeps.sources);
  }

module _ (T : Types) (folder most : ℕ) (copying copying' : Copying) (node : Node) (directory : ℕ) (name : List ℕ) (old new : StoreState)
    (volume volume' : Volume) where
  pub copied_again : {E : Type 0} (result : Result (Unit {0}) E) (number : ℕ) → copy_kept copying node ≡ Some number → KeepsSame copying copying' →
      MatchResult result (λ done. PutsName T folder number directory name old new volume volume' (Ok tt))
      (λ told. IsRefused (PutsName T folder number directory name old new volume volume') old new volume volume') →
      MatchResult result (λ done. CopiesFile T folder most copying copying' node directory name old new volume volume')
      (λ told. LeavesFile T folder most copying copying' node directory name old new volume volume')
  copied_again (Ok done) number is same does =
      subst (λ (o : Option ℕ). MatchOption o (CopiesFirst T folder most copying copying' node directory name old new volume volume' (Ok tt))
      (λ n. PutsName T folder n directory name old new volume volume' (Ok tt) × KeepsSame copying copying')) (sym is) (does, same)
  copied_again (Err told) number is same does =
      subst (λ (o : Option ℕ). MatchOption o (LeavesFirst T folder most copying copying' node directory name old new volume volume')
      (λ n. IsRefused (PutsName T folder n directory name old new volume volume') old new volume volume' × KeepsSame copying copying')) (sym is) (does, same)

  pub first_copied : copy_kept copying node ≡ None → CopiesFirst T folder most copying copying' node directory name old new volume volume' (Ok tt) →
      CopiesFile T folder most copying copying' node directory name old new volume volume'
  first_copied is first =
      subst (λ (o : Option ℕ). MatchOption o (CopiesFirst T folder most copying copying' node directory name old new volume volume' (Ok tt))
      (λ n. PutsName T folder n directory name old new volume volume' (Ok tt) × KeepsSame copying copying')) (sym is) first

  pub first_left : copy_kept copying node ≡ None → LeavesFirst T folder most copying copying' node directory name old new volume volume' →
      LeavesFile T folder most copying copying' node directory name old new volume volume'
  first_left is left =
      subst (λ (o : Option ℕ). MatchOption o (LeavesFirst T folder most copying copying' node directory name old new volume volume')
      (λ n. IsRefused (PutsName T folder n directory name old new volume volume') old new volume volume' × KeepsSame copying copying')) (sym is) left

-- kept: once what was new is copied
module _ (T types : Types) (top folder most : ℕ) (types_are : types ≡ T) (folder_is : folder ≡ top) (copying kept copying' : Copying)
    (same : KeepsSame copying kept) (recursive : kept.is_recursive ≡ copying.is_recursive) (node : Node) (directory : ℕ) (name : List ℕ)
    (old middle new : StoreState) (volume between volume' : Volume) (number : ℕ) (none_kept : copy_kept copying node ≡ None)
    (copied : Copies T top most node directory name old middle volume between number) (keeps : Keeps kept copying' node number) where
  mtime_so : (mtime : ℤ) (result : Result (Unit {0}) Fault) → MtimeIn types folder number mtime middle new between volume' result →
      MtimeIn T top number mtime middle new between volume' result
  mtime_so mtime result = as_first (λ t n. MtimeIn t n number mtime middle new between volume' result) T types top folder types_are folder_is

  first : (result : Result (Unit {0}) Fault) → MtimeIfAny T top number (time_kept copying.is_recursive node) middle new between volume' result →
      CopiesFirst T top most copying copying' node directory name old new volume volume' result
  first result time = (number, middle, between, copied, keeps_since copying kept copying' same recursive node number keeps, time)

  pub timed : {E : Type 0} (result : Result (Unit {0}) E) → copying.is_recursive ≡ true →
      Answers (MtimeIn types folder number node.modified middle new between volume') result →
      MatchResult result (λ done. CopiesFile T top most copying copying' node directory name old new volume volume')
      (λ told. LeavesFile T top most copying copying' node directory name old new volume volume')
  timed (Ok done) is does =
      first_copied T top most copying copying' node directory name old new volume volume' none_kept
      (first (Ok tt) (subst (λ (r : Bool). MtimeIfAny T top number (time_kept r node) middle new between volume' (Ok tt)) (sym is)
      (mtime_so node.modified (Ok tt) does)))
  timed (Err told) is does =
      first_left T top most copying copying' node directory name old new volume volume' none_kept
      (inr (inr (
        does.0,
        first (Err does.0) (subst (λ (r : Bool). MtimeIfAny T top number (time_kept r node) middle new between volume' (Err does.0)) (sym is)
            (mtime_so node.modified (Err does.0) does.1)),
      )))

pub untimed : (T : Types) (top most : ℕ) (copying kept copying' : Copying) → KeepsSame copying kept → kept.is_recursive ≡ copying.is_recursive → (node : Node)
    (directory : ℕ) (name : List ℕ) (old new : StoreState) (volume volume' : Volume) (number : ℕ) → copy_kept copying node ≡ None →
    Copies T top most node directory name old new volume volume' number → Keeps kept copying' node number → copying.is_recursive ≡ false →
    CopiesFile T top most copying copying' node directory name old new volume volume'
untimed T top most copying kept copying' same recursive node directory name old new volume volume' number none_kept copied keeps is =
    first_copied T top most copying copying' node directory name old new volume volume' none_kept (
      number,
      new,
      volume',
      copied,
      keeps_since copying kept copying' same recursive node number keeps,
      subst (λ (r : Bool). MtimeIfAny T top number (time_kept r node) new new volume' volume' (Ok tt)) (sym is) ((refl, refl), refl),
    )
