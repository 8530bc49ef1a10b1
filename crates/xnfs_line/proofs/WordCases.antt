-- What a word does, by the word that it is; and where what it left is written.
use Rattle.std.proofs.Common.{◌≡◌, ◌⊎◌, ℕ, Bool, true, false, Bor, List, Result, inl, inr, refl, subst, sym}
use Rattle.std.specs.Prelude.{◌||◌, MatchBool, MatchResult, map}
use Rattle.xn_model.specs.Lives.{StoreState}
use Rattle.xn_model.specs.Types.{Types}
use Rattle.xnfs_words.specs.declared.word.Word.{Word}
use Rattle.xnfs_words.specs.declared.word.Word.TheVariants.{Link}
use Rattle.tree_lines.specs.Values.{Volume}
use Rattle.tree_lines.specs.declared.fault.Fault.{Fault}
use Rattle.tree_lines.specs.declared.told.Told.{Told}
use Rattle.tree_changes.specs.Attributes.{IsSet, IsUnset}
use Rattle.tree_changes.specs.Below.{SetsTree, SetsTreeUpTo}
use Rattle.tree_changes.specs.CopiedPaths.{CopiesTrees}
use Rattle.tree_changes.specs.Copying.{CopiesPaths}
use Rattle.tree_changes.specs.Emptying.{KeepsSome, RemovesAll}
use Rattle.tree_changes.specs.Naming.{IsUnlinked, Links}
use Rattle.tree_changes.specs.Paths.{DoesPaths}
use Rattle.tree_changes.specs.PathsTold.{TellsPaths}
use Rattle.tree_changes.specs.Removing.{IsKept, Removes}
use Rattle.tree_changes.specs.declared.naming.Linking.{Linking}
use Rattle.tree_changes.specs.declared.setting.Setting.{Setting}
use Rattle.tree_puts.specs.Lines.{line_of}
use Rattle.tree_puts.specs.Sources.{PutsAll}
use Rattle.xnfs_line.specs.Words.{CopiesSources, PutsPaths, RemovesPaths, SetsPaths, WordDoes, linking_of}

pub link_does : (T : Types) (folder : ℕ) (word : Word) (target path : Bor (List ℕ)) (symbolic : Bool) (linking : Linking) →
    word ≡ Link target path symbolic → linking ≡ linking_of symbolic → (told told' : Told) (old new : StoreState) (volume volume' : Volume)
    (result : Result (Unit {0}) Fault) → told' ≡ told →
    MatchResult result (λ done. Links T folder linking target.now path.now old new volume volume')
    (λ fault. IsUnlinked T folder linking target.now path.now old new volume volume') →
    WordDoes T folder word told told' old new volume volume' result
link_does T folder word target path symbolic linking is kind told told' old new volume volume' result same does =
    subst (λ (w : Word). WordDoes T folder w told told' old new volume volume' result) (sym is) (
      same,
      subst (λ (l : Linking). MatchResult result (λ done. Links T folder l target.now path.now old new volume volume')
          (λ fault. IsUnlinked T folder l target.now path.now old new volume volume')) kind does,
    )

-- with all below the paths, or not

pub sets_paths : (T : Types) (folder : ℕ) (setting : Setting) (paths : List (List ℕ)) (recursive : Bool) (told told' : Told) (old new : StoreState)
    (volume volume' : Volume) (result : Result (Unit {0}) Fault) →
    (recursive ≡ false → DoesPaths (IsSet setting T folder) (IsUnset setting T folder) paths told told' old new volume volume' result) →
    (recursive ≡ true → TellsPaths (SetsTree setting T folder) (SetsTreeUpTo setting T folder) paths told told' old new volume volume' result) →
    SetsPaths T folder setting paths recursive told told' old new volume volume' result
sets_paths T folder setting paths false told told' old new volume volume' result does below = does refl
sets_paths T folder setting paths true told told' old new volume volume' result does below = below refl

pub removes_paths : (T : Types) (folder : ℕ) (paths : List (List ℕ)) (recursive forced : Bool) (told told' : Told) (old new : StoreState)
    (volume volume' : Volume) (result : Result (Unit {0}) Fault) →
    (recursive ≡ false → DoesPaths (Removes forced T folder) (IsKept T folder) paths told told' old new volume volume' result) →
    (recursive ≡ true → TellsPaths (RemovesAll forced T folder) (KeepsSome T folder) paths told told' old new volume volume' result) →
    RemovesPaths T folder paths recursive forced told told' old new volume volume' result
removes_paths T folder paths false forced told told' old new volume volume' result does below = does refl
removes_paths T folder paths true forced told told' old new volume volume' result does below = below refl

pub copies_sources : (T : Types) (folder : ℕ) (goal : List ℕ) (several : Bool) (paths : List (List ℕ)) (recursive : Bool) (told told' : Told)
    (old new : StoreState) (volume volume' : Volume) (result : Result (Unit {0}) Fault) →
    (recursive ≡ false → CopiesPaths T folder goal several paths told told' old new volume volume' result) →
    (recursive ≡ true → CopiesTrees T folder goal several paths told told' old new volume volume' result) →
    CopiesSources T folder goal several paths recursive told told' old new volume volume' result
copies_sources T folder goal several paths false told told' old new volume volume' result does all = does refl
copies_sources T folder goal several paths true told told' old new volume volume' result does all = all refl

-- the types of the store and the folder that is held stay
pub puts_paths : (T types : Types) (folder folder' : ℕ) (lines : Bool) (goal : List ℕ) (several : Bool) (sources : List (List ℕ)) (told told' : Told)
    (old new : StoreState) (volume volume' : Volume) (result : Result (Unit {0}) Fault) → types ≡ T → folder' ≡ folder →
    PutsAll lines goal several 1048576 sources result (line_of T old folder volume told) (line_of types new folder' volume' told') →
    PutsPaths T folder goal several sources told told' old new volume volume' result
puts_paths T types folder folder' lines goal several sources told told' old new volume volume' result types_are folder_is does = (
  lines,
  subst (λ (t : Types). PutsAll lines goal several 1048576 sources result (line_of T old folder volume told) (line_of t new folder volume' told')) types_are
      (subst (λ (n : ℕ). PutsAll lines goal several 1048576 sources result (line_of T old folder volume told) (line_of types new n volume' told'))
      folder_is does),
)

-- lazy: of the shell; looks: whether a word only looks

pub stays : {A : Type 0} (B : Type 0) (lazy looks : Bool) → (lazy ≡ true) ⊎ (looks ≡ true) → A → MatchBool (lazy || looks) A B
stays B true looks either a = a
stays B false true either a = a
stays B false false (inl e) a = absurd (cc e)
stays B false false (inr e) a = absurd (cc e)

pub is_written : (A : Type 0) {B : Type 0} (lazy looks : Bool) → lazy ≡ false → looks ≡ false → B → MatchBool (lazy || looks) A B
is_written A true looks e f b = absurd (cc e)
is_written A false true e f b = absurd (cc f)
is_written A false false e f b = b
