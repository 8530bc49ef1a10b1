-- What is copied takes the place of what has its name; a single file is copied for the first time.
use Rattle.std.proofs.Common.{◌≡◌, ◌⊎◌, ℕ, Bool, true, false, List, Option, None, Some, Result, Ok, Err, ap, inl, inr, refl, subst, sym}
use Rattle.std.specs.Prelude.{MatchOption, MatchResult}
use Rattle.xn_model.specs.Lives.{StoreState}
use Rattle.xn_model.specs.Types.{Types}
use Rattle.treefs_format.specs.declared.kind.Kind.{Kind}
use Rattle.treefs_format.specs.declared.kind.Kind.TheVariants.{Directory, File, SymbolicLink}
use Rattle.treefs_model.specs.declared.fault.Fault.{Fault}
use Rattle.tree_lines.specs.Values.{Volume}
use Rattle.tree_lines.specs.declared.node.Node.{Node}
use Rattle.tree_changes.specs.CopiedFiles.{CopiesFile, CopiesFirst, CopiesOver, LeavesFile, LeavesFirst, LeavesOver, Replaces, copied_over, time_kept}
use Rattle.tree_changes.specs.CopiedFiles.{with_rights_of, with_rights_over}
use Rattle.tree_changes.specs.Copies.{Copies, IsUncopied}
use Rattle.tree_changes.specs.Files.{MtimeIfAny}
use Rattle.tree_changes.specs.KeptCopies.{KeepsSame, copy_kept, is_kept}
use Rattle.tree_changes.specs.MoreNames.{PutsName}
use Rattle.tree_changes.specs.Paths.{IsRefused}
use Rattle.tree_changes.specs.declared.copies.Copying.{Copying}

-- rights

rights_as : (k : Kind) (node other : Node) → (k ≡ SymbolicLink → ⊥) → with_rights_of node other ≡ with_rights_over k node other
rights_as SymbolicLink node other no_link = absurd (no_link refl)
rights_as Directory node other no_link = refl
rights_as File node other no_link = refl

pub rights_taken : (recursive : Bool) (node other : Node) → recursive ≡ false → (other.kind ≡ SymbolicLink → ⊥) →
    with_rights_of node other ≡ copied_over recursive node (Some other)
rights_taken true node other is no_link = cc
rights_taken false node other is no_link = rights_as other.kind node other no_link

pub rights_stay : (recursive : Bool) (node other : Node) → (recursive ≡ true) ⊎ (other.kind ≡ SymbolicLink) → node ≡ copied_over recursive node (Some other)
rights_stay true node other why = refl
rights_stay false node other (inl is) = cc
rights_stay false node other (inr is) = ap (λ (k : Kind). with_rights_over k node other) (sym is)

-- in the place of what has the name

module _ {E : Type 0} (T : Types) (folder most : ℕ) (copying forgotten copying' : Copying) (node copied : Node) (directory : ℕ) (name : List ℕ) (slash : Bool)
    (old new : StoreState) (volume volume' : Volume) (replaces : Replaces copying forgotten old volume node directory name slash copied) where
  pub over : (result : Result (Unit {0}) E) →
      MatchResult result (λ done. CopiesFile T folder most forgotten copying' copied directory name old new volume volume')
      (λ told. LeavesFile T folder most forgotten copying' copied directory name old new volume volume') →
      MatchResult result (λ done. CopiesOver T folder most copying copying' node directory name slash old new volume volume')
      (λ told. LeavesOver T folder most copying copying' node directory name slash old new volume volume')
  over (Ok done) does = (forgotten, copied, replaces, does)
  over (Err told) does = inr (forgotten, copied, replaces, does)

-- a single file

module _ (T : Types) (folder most : ℕ) (copying copying' : Copying) (node : Node) (directory : ℕ) (name : List ℕ) (old new : StoreState)
    (volume volume' : Volume) (single : copying.is_recursive ≡ false) where
  unkept : is_kept copying node ≡ false
  unkept = rw single refl

  none_kept : copy_kept copying node ≡ None
  none_kept = rw single refl

  untimed : (result : Result (Unit {0}) Fault) (number : ℕ) (middle : StoreState) (between : Volume) →
      MtimeIfAny T folder number (time_kept copying.is_recursive node) middle new between volume' result →
      MtimeIfAny T folder number None middle new between volume' result
  untimed result number middle between time =
      subst (λ (r : Bool). MtimeIfAny T folder number (time_kept r node) middle new between volume' result) single time

  pub copied_single : CopiesFile T folder most copying copying' node directory name old new volume volume' →
      (number : ℕ) × Copies T folder most node directory name old new volume volume' number
  copied_single file =
      let first : CopiesFirst T folder most copying copying' node directory name old new volume volume' (Ok tt) =
      subst (λ (o : Option ℕ). MatchOption o (CopiesFirst T folder most copying copying' node directory name old new volume volume' (Ok tt))
      (λ n. PutsName T folder n directory name old new volume volume' (Ok tt) × KeepsSame copying copying')) none_kept file in
      let same = (untimed (Ok tt) first.0 first.1 first.2 first.5).0 in (
        first.0,
        subst (λ (s : StoreState). Copies T folder most node directory name old s volume volume' first.0) (sym same.0)
            (subst (λ (v : Volume). Copies T folder most node directory name old first.1 volume v first.0) (sym same.1) first.3),
      )

  left_first : LeavesFirst T folder most copying copying' node directory name old new volume volume' →
      IsUncopied T folder most node directory name old new volume volume'
  left_first (inl uncopied) = uncopied.0
  left_first (inr (inl lacks)) = let no = unkept in let is = lacks.2 in cc
  left_first (inr (inr refused)) =
      let first = refused.1 in
      let wrong = (untimed (Err refused.0) first.0 first.1 first.2 first.5).1 in
      cc

  pub left_single : LeavesFile T folder most copying copying' node directory name old new volume volume' →
      IsUncopied T folder most node directory name old new volume volume'
  left_single file =
      left_first (subst (λ (o : Option ℕ). MatchOption o (LeavesFirst T folder most copying copying' node directory name old new volume volume')
      (λ n. IsRefused (PutsName T folder n directory name old new volume volume') old new volume volume' × KeepsSame copying copying')) none_kept file)
