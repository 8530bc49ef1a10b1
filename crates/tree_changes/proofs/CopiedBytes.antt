-- The bytes of a file are copied stretch by stretch.
use Rattle.std.proofs.Common.{◌≡◌, ℕ, ◌+◌, ◌-◌, ◌<◌, ◌≤◌, List, [], ◌∷◌, Option, None, Some, Result, Ok, Err, arith, inr, refl, subst, sym}
use Rattle.std.specs.Prelude.{IsErr, MatchResult}
use Rattle.xn_model.specs.Lives.{StoreState}
use Rattle.xn_model.specs.Types.{Types}
use Rattle.treefs_format.specs.Leaves.{greatest_size}
use Rattle.treefs_model.specs.declared.fault.Fault.{Fault}
use Rattle.treefs_lookup.specs.Inodes.{inode_found}
use Rattle.treefs_lookup.specs.Readable.{readable}
use Rattle.treefs_lookup.specs.declared.inodes.Found.{Found}
use Rattle.tree_lines.specs.Values.{Begun, Volume}
use Rattle.tree_lines.specs.Pieces.{WritesAll}
use Rattle.tree_lines.specs.Answers.{Answers}
use Rattle.tree_lines.specs.Contents.{HasStretch, IsRead, IsStretchOf}
use Rattle.tree_lines.specs.declared.node.Node.{Node}
use Rattle.tree_lines.specs.declared.node.Stretch.{Stretch}
use Rattle.tree_lines.specs.declared.reason.Reason.{Reason}
use Rattle.tree_changes.specs.Copies.{CopiesAll, CopiesBytes, CopiesNext, CopiesStretches, LeavesBytes, LeavesSome, LeavesStretch}
use Rattle.tree_changes.specs.Copies.CopiesStretches.{copies, none}

-- what is so of the types and the folder that stay is so of the first ones
pub as_first : (P : Types → ℕ → Type 0) (T types : Types) (top folder : ℕ) → types ≡ T → folder ≡ top → P types folder → P T top
as_first P T types top folder types_are folder_is h = subst (λ (n : ℕ). P T n) folder_is (subst (λ (t : Types). P t folder) types_are h)

-- a stretch that is seen
pub record IsWithin (at most : ℕ) (stretch : Stretch) : Type 0 where
  pub past : at ≤ stretch.at
  pub some : 0 < stretch.length
  pub few : stretch.length ≤ most
  pub low : stretch.at + stretch.length ≤ greatest_size

within_of : (content : ℕ → List ℕ) (found : Result Found Fault) (at most : ℕ) (stretch : Stretch) → IsStretchOf content found at most (Ok (Some stretch)) →
    IsWithin at most stretch
within_of content (Ok file) at most stretch is = record { past = is.past; some = is.some; few = is.few; low = omega (arith, is.within) }
within_of content (Err fault) at most stretch is = cc

pub is_within : (state : StoreState) (volume : Volume) (number at most : ℕ) (stretch : Stretch) → HasStretch state volume number at most (Ok (Some stretch)) →
    IsWithin at most stretch
is_within state volume number at most stretch has =
    within_of (readable state volume.tree.fs.number) (inode_found (readable state volume.tree.fs.number) volume.tree.top number) at most stretch has

-- what can't be read
pub not_read : (found : Result (List ℕ) Reason) (old new : List ℕ) (reason : Reason) → IsRead found old new (Err reason) → (r : Reason) × (found ≡ Err r)
not_read (Ok bytes) old new reason is = let wrong = is.0 in cc
not_read (Err other) old new reason is = (other, refl)

pub none_of : {A : Type 0} (o : Option A) → ((x : A) → o ≡ Some x → ⊥) → o ≡ None
none_of None other = refl
none_of (Some x) other = absurd (other x refl)

-- where something ends what is done
pub failed_at : {A E : Type 0} (Done : A → Type 0) (Left : Type 0) (result : Result A E) → IsErr result → Left → MatchResult result Done (λ told. Left)
failed_at Done Left (Ok done) err left = cc
failed_at Done Left (Err fault) err left = left

-- so many more of them

pub none_copied : (T : Types) (folder most number block at : ℕ) (state : StoreState) (volume : Volume) →
    CopiesStretches T folder most number block at at state state volume volume
none_copied T folder most number block at state volume = none

module _ (T types : Types) (top folder : ℕ) (types_are : types ≡ T) (folder_is : folder ≡ top) (most block : ℕ) (node : Node) (at : ℕ)
    (old middle new : StoreState) (volume between volume' : Volume)
    (before : CopiesStretches T top most node.number block 384 at old middle volume between) where
  pub one_more : (behind : ℕ) → CopiesNext types folder most node.number block at middle new between volume' (Some behind) →
      CopiesStretches T top most node.number block 384 behind old new volume volume'
  one_more behind next =
      let so = as_first (λ t n. CopiesNext t n most node.number block at middle new between volume' (Some behind)) T types top folder types_are
      folder_is next in
      subst (λ (b : ℕ). CopiesStretches T top most node.number block 384 b old new volume volume') (sym so.2) (copies so.0 middle between before so.1)

  goes_up : (behind : ℕ) → CopiesNext types folder most node.number block at middle new between volume' (Some behind) → at < behind
  goes_up behind next =
      let within = is_within middle between node.number at most next.0 next.1.1 in
      omega (arith, next.2, within.past, within.some)

  no_more : CopiesNext types folder most node.number block at middle new between volume' None →
      CopiesAll T top most node block old new volume volume' at
  no_more next =
      let same = next.1 in
      let copied = subst (λ (s : StoreState). CopiesStretches T top most node.number block 384 at old s volume volume') (sym same.0)
      (subst (λ (v : Volume). CopiesStretches T top most node.number block 384 at old middle volume v) (sym same.1) before) in
      let has = subst (λ (s : StoreState). HasStretch s volume' node.number at most (Ok None)) (sym same.0)
      (subst (λ (v : Volume). HasStretch middle v node.number at most (Ok None)) (sym same.1) next.0) in
      (copied, inr has)

  pub none_behind : (next : Option ℕ) → ((behind : ℕ) → next ≡ Some behind → at < behind → ⊥) →
      CopiesNext types folder most node.number block at middle new between volume' next → CopiesAll T top most node block old new volume volume' at
  none_behind None goes next = no_more next
  none_behind (Some behind) goes next = absurd (goes behind refl (goes_up behind next))

  pub left_there : LeavesStretch types folder most node.number block at middle new between volume' → LeavesSome T top most node block old new volume volume'
  left_there left = (
    at,
    middle,
    between,
    before,
    as_first (λ t n. LeavesStretch t n most node.number block at middle new between volume') T types top folder types_are
        folder_is left,
  )

-- the last byte
module _ {E : Type 0} (T types : Types) (top folder : ℕ) (types_are : types ≡ T) (folder_is : folder ≡ top) (most block : ℕ) (node : Node) (at : ℕ)
    (old middle new : StoreState) (volume between volume' : Volume) (all : CopiesAll T top most node block old middle volume between at)
    (less : at < node.size) where
  pub ended : (result : Result (Unit {0}) E) →
      Answers (WritesAll types (folder ∷ []) (Begun block (node.size - 1)) (0 ∷ []) middle new between volume') result →
      MatchResult result (λ done. CopiesBytes T top most node block old new volume volume' (Ok tt))
      (λ told. LeavesBytes T top most node block old new volume volume')
  ended (Ok done) writes = (
    at,
    middle,
    between,
    all,
    inr (
      less,
      as_first (λ t n. WritesAll t (n ∷ []) (Begun block (node.size - 1)) (0 ∷ []) middle new between volume' (Ok tt)) T types top folder types_are folder_is
          writes,
    ),
  )
  ended (Err told) writes =
      inr (
        writes.0,
        (
          at,
          middle,
          between,
          all,
          inr (
            less,
            as_first (λ t n. WritesAll t (n ∷ []) (Begun block (node.size - 1)) (0 ∷ []) middle new between volume' (Err writes.0)) T types top folder types_are
                folder_is writes.1,
          ),
        ),
      )
