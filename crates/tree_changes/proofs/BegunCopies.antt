-- A copy that was begun is finished or given up; a symbolic link is put.
use Rattle.std.proofs.Common.{◌≡◌, ◌∙◌, ℕ, ◌≤◌, Bool, true, false, List, [], ◌∷◌, Result, Ok, Err, inl, inr, length, refl, subst, sym, take}
use Rattle.std.specs.Prelude.{MatchBool, MatchResult}
use Rattle.std.proofs.lemmas.List.{take_all}
use Rattle.xn_model.specs.Lives.{StoreState}
use Rattle.xn_model.specs.Types.{Types}
use Rattle.treefs_format.specs.declared.kind.Kind.{Kind}
use Rattle.treefs_format.specs.declared.kind.Kind.TheVariants.{Directory, File, SymbolicLink}
use Rattle.treefs_model.specs.declared.fault.Fault.{Fault}
use Rattle.tree_lines.specs.Values.{Attributes, Put, Volume}
use Rattle.tree_lines.specs.Freeing.{GivesUp}
use Rattle.tree_lines.specs.Puts.{PutDoes}
use Rattle.tree_lines.specs.Answers.{Answers}
use Rattle.tree_lines.specs.Contents.{HasTarget, bytes_seen, target_seen}
use Rattle.tree_lines.specs.declared.node.Node.{Node}
use Rattle.tree_changes.specs.Copies.{BeginIn, CommitIn, Copies, CopiesAs, CopiesBytes, CopiesContent, CopiesLink, GivesUpCopy, HasRightsOf, IsLinkPut}
use Rattle.tree_changes.specs.Copies.{IsUncopied}
use Rattle.tree_changes.specs.Copies.{IsUncopiedAs, LeavesContent, LeavesCopy, NamesCopy}
use Rattle.tree_changes.specs.Paths.{IsRefused, IsSame}
use Rattle.tree_changes.proofs.CopiedBytes.{as_first}

-- its name

module _ (T types : Types) (top folder : ℕ) (types_are : types ≡ T) (folder_is : folder ≡ top) (most : ℕ) (node : Node) (directory : ℕ) (name : List ℕ)
    (block : ℕ) (old middle new : StoreState) (volume between volume' : Volume)
    (copied : CopiesBytes T top most node block old middle volume between (Ok tt)) where
  commit_so : (result : Result ℕ Fault) → CommitIn types folder block directory name middle new between volume' result →
      CommitIn T top block directory name middle new between volume' result
  commit_so result = as_first (λ t n. CommitIn t n block directory name middle new between volume' result) T types top folder types_are folder_is

  pub finished : {E : Type 0} (result : Result ℕ E) → Answers (CommitIn types folder block directory name middle new between volume') result →
      MatchResult result (λ number. NamesCopy T top most node block directory name old new volume volume' (Ok number))
      (λ told. LeavesCopy T top most node block directory name old new volume volume')
  finished (Ok number) does = (middle, between, copied, commit_so (Ok number) does)
  finished (Err told) does = inr (does.0, (middle, between, copied, commit_so (Err does.0) does.1))

-- Same: nothing more was done
pub given_up : (T types : Types) → types ≡ T → (block : ℕ) (old new : StoreState) (volume volume' : Volume) (broken : Bool) (Same : Type 0) →
    (Same → IsSame old new volume volume') →
    MatchBool broken Same ((given : Result Bool Fault) × GivesUp types block old new volume volume' given) → GivesUpCopy T block old new volume volume'
given_up T types types_are block old new volume volume' true Same so is = inl (so is)
given_up T types types_are block old new volume volume' false Same so is =
    inr (is.0, subst (λ (t : Types). GivesUp t block old new volume volume' is.0) types_are is.1)

-- a file

module _ (T types : Types) (top folder : ℕ) (types_are : types ≡ T) (folder_is : folder ≡ top) (most : ℕ) (node : Node) (directory : ℕ) (name : List ℕ)
    (attributes : Attributes) (head : List ℕ) (block : ℕ) (old middle : StoreState) (volume between : Volume) (rights : HasRightsOf attributes node)
    (seen : bytes_seen old volume node.number 0 384 ≡ Ok head) (begins : BeginIn T top attributes head old middle volume between (Ok block)) where
  pub content_named : (new : StoreState) (volume' : Volume) (number : ℕ) →
      NamesCopy types folder most node block directory name middle new between volume' (Ok number) →
      CopiesContent T top most node directory name old new volume volume' number
  content_named new volume' number names = (
    attributes,
    head,
    block,
    middle,
    between,
    rights,
    seen,
    begins,
    as_first (λ t n. NamesCopy t n most node block directory name middle new between volume' (Ok number)) T types top folder types_are folder_is names,
  )

  pub content_left : (stopped new : StoreState) (then volume' : Volume) →
      LeavesCopy types folder most node block directory name middle stopped between then → GivesUpCopy T block stopped new then volume' →
      LeavesContent T top most node directory name old new volume volume'
  content_left stopped new then volume' left gives =
      let so = as_first (λ t n. LeavesCopy t n most node block directory name middle stopped between then) T types top folder types_are folder_is left in
      inr (attributes, head, rights, seen, inr (block, middle, between, stopped, then, begins, so, gives))

-- the first bytes that are read are few enough
pub begins_with : (T : Types) (folder : ℕ) (attributes : Attributes) (head first : List ℕ) (old new : StoreState) (volume volume' : Volume)
    (result : Result ℕ Fault) → length head ≤ 384 → first ≡ take 384 head → BeginIn T folder attributes first old new volume volume' result →
    BeginIn T folder attributes head old new volume volume' result
begins_with T folder attributes head first old new volume volume' result few is begins =
    subst (λ (bytes : List ℕ). BeginIn T folder attributes bytes old new volume volume' result) (is ∙ take_all 384 head few) begins

-- a symbolic link

pub target_is : (state : StoreState) (volume : Volume) (number : ℕ) (target : List ℕ) → HasTarget state volume number (Ok target) →
    target_seen state volume number ≡ Ok target
target_is state volume number target (inl none) = cc
target_is state volume number target (inr is) = sym is

pub link_put : {E : Type 0} (T : Types) (folder : ℕ) (node : Node) (directory : ℕ) (name : List ℕ) (old new : StoreState) (volume volume' : Volume) (put : Put)
    (target : List ℕ) → target_seen old volume node.number ≡ Ok target → IsLinkPut put node directory name target → (result : Result ℕ E) →
    Answers (PutDoes T (folder ∷ []) put old new volume volume') result →
    MatchResult result (λ number. CopiesLink T folder node directory name old new volume volume' (Ok number))
    (λ told. IsRefused (CopiesLink T folder node directory name old new volume volume') old new volume volume')
link_put T folder node directory name old new volume volume' put target seen is (Ok number) does = (put, target, seen, is, does)
link_put T folder node directory name old new volume volume' put target seen is (Err told) does = inr (does.0, (put, target, seen, is, does.1))

-- both

module _ (T : Types) (folder most : ℕ) (node : Node) (directory : ℕ) (name : List ℕ) (old new : StoreState) (volume volume' : Volume) where
  content_as : (k : Kind) → (k ≡ SymbolicLink → ⊥) → (number : ℕ) → CopiesContent T folder most node directory name old new volume volume' number →
      CopiesAs k T folder most node directory name old new volume volume' number
  content_as SymbolicLink other number copied = absurd (other refl)
  content_as Directory other number copied = copied
  content_as File other number copied = copied

  left_as : (k : Kind) → (k ≡ SymbolicLink → ⊥) → LeavesContent T folder most node directory name old new volume volume' →
      IsUncopiedAs k T folder most node directory name old new volume volume'
  left_as SymbolicLink other left = absurd (other refl)
  left_as Directory other left = left
  left_as File other left = left

  pub content_copied : {E : Type 0} (result : Result ℕ E) → (node.kind ≡ SymbolicLink → ⊥) →
      MatchResult result (λ number. CopiesContent T folder most node directory name old new volume volume' number)
      (λ told. LeavesContent T folder most node directory name old new volume volume') →
      MatchResult result (λ number. Copies T folder most node directory name old new volume volume' number)
      (λ told. IsUncopied T folder most node directory name old new volume volume')
  content_copied (Ok number) other does = content_as node.kind other number does
  content_copied (Err told) other does = left_as node.kind other does

  pub link_copied : {E : Type 0} (result : Result ℕ E) → node.kind ≡ SymbolicLink →
      MatchResult result (λ number. CopiesLink T folder node directory name old new volume volume' (Ok number))
      (λ told. IsRefused (CopiesLink T folder node directory name old new volume volume') old new volume volume') →
      MatchResult result (λ number. Copies T folder most node directory name old new volume volume' number)
      (λ told. IsUncopied T folder most node directory name old new volume volume')
  link_copied (Ok number) is does = subst (λ (k : Kind). CopiesAs k T folder most node directory name old new volume volume' number) (sym is) does
  link_copied (Err told) is does = subst (λ (k : Kind). IsUncopiedAs k T folder most node directory name old new volume volume') (sym is) does
