-- What a word does to an open volume.
--     texts                     texts of a line
--     IsUndone                  nothing was done, which is the line's fault
--     linking_of                the kind of link that `ln` makes
--     ModesDo, OwnersDo         `chmod` and `chown`: the text is a mode, or one of owners, which are set; or it is none
--     TimesDo                   `touch`: the text is a time, if there is one; or it is none
--     SetsPaths                 what is set at some paths, with all below them or not
--     RemovesPaths              `rm` of some paths, with all below them or not
--     CopiesSources             `cp` of some paths, with all below them or not
--     PutsPaths                 `put` of some paths of the system
--     NamesDo                   words that give names or take them, or bring files in
--     WordDoes                  what a word does that changes a volume; of any other, nothing
--     only_looks, looks         a word only looks; `check` on an open volume, too, which has nothing to mend
--     RunsWord                  what a word does; one that looks changes nothing
use Rattle.std.specs.Prelude.{◌≡◌, ◌⊎◌, ℕ, ℤ, nat_lt, Bool, false, true, List, length, map, Option, None, Some, Result, Err, MatchBool, MatchResult, not}
use Rattle.std.specs.Prelude.{option_copied}
use Rattle.xn_model.specs.Lives.{StoreState}
use Rattle.xn_model.specs.Types.{Types}
use Rattle.xnfs_words.specs.declared.word.Word.{Word}
use Rattle.xnfs_words.specs.declared.word.Word.TheVariants.{Cat, ChangeMode, ChangeOwner, Check, Copy, DiskUsage, Find}
use Rattle.xnfs_words.specs.declared.word.Word.TheVariants.{FreeSpace, Get, Link, List as ListFolders}
use Rattle.xnfs_words.specs.declared.word.Word.TheVariants.{MakeFolder, Move, Put, ReadLink, Remove, RemoveFolder, Stat, Touch, Tree, Truncate}
use Rattle.tree_lines.specs.Values.{Volume}
use Rattle.tree_lines.specs.declared.fault.Fault.{Fault}
use Rattle.tree_lines.specs.declared.fault.Fault.TheVariants.{NoMemory}
use Rattle.tree_lines.specs.declared.told.Told.{Told}
use Rattle.tree_changes.specs.Attributes.{IsSet, IsUnset}
use Rattle.tree_changes.specs.Below.{SetsTree, SetsTreeUpTo}
use Rattle.tree_changes.specs.CopiedPaths.{CopiesTrees}
use Rattle.tree_changes.specs.Copying.{CopiesPaths}
use Rattle.tree_changes.specs.Cuts.{IsTold}
use Rattle.tree_changes.specs.DateTexts.{IsTime}
use Rattle.tree_changes.specs.Emptying.{KeepsSome, RemovesAll}
use Rattle.tree_changes.specs.Files.{IsUnsized, IsUntouched, Sizes, Touches}
use Rattle.tree_changes.specs.Folders.{GivesUpFolder, IsFolderKept}
use Rattle.tree_changes.specs.Making.{IsLeftUnmade, Makes}
use Rattle.tree_changes.specs.ModeTexts.{IsModeTold}
use Rattle.tree_changes.specs.Moving.{IsUnmoved, Moves}
use Rattle.tree_changes.specs.Naming.{IsUnlinked, Links}
use Rattle.tree_changes.specs.OwnerTexts.{IsOwnersTold}
use Rattle.tree_changes.specs.Paths.{DoesPaths, IsSame}
use Rattle.tree_changes.specs.PathsTold.{TellsPaths}
use Rattle.tree_changes.specs.Removing.{IsKept, Removes}
use Rattle.tree_changes.specs.declared.modes.Modes.{Modes}
use Rattle.tree_changes.specs.declared.naming.Linking.{Linking}
use Rattle.tree_changes.specs.declared.naming.Linking.TheVariants.{Hard, Symbolic}
use Rattle.tree_changes.specs.declared.owners.Owners.{Owners}
use Rattle.tree_changes.specs.declared.setting.Setting.{Setting}
use Rattle.tree_changes.specs.declared.setting.Setting.TheVariants as setting
use Rattle.tree_puts.specs.Lines.{line_of}
use Rattle.tree_puts.specs.Sources.{PutsAll}

abbrev pub IsUndone : Told → Told → StoreState → StoreState → Volume → Volume → Result (Unit {0}) Fault → Type 0
IsUndone told told' old new volume volume' result = MatchResult result (λ done. ⊥) (λ fault. (told' ≡ told) × IsSame old new volume volume')

abbrev pub linking_of : Bool → Linking
linking_of false = Hard
linking_of true = Symbolic

-- folder: from which relative paths begin; recursive: with all below them
abbrev pub SetsPaths : Types → ℕ → Setting → List (List ℕ) → Bool → Told → Told → StoreState → StoreState → Volume → Volume
    → Result (Unit {0}) Fault → Type 0
SetsPaths T folder setting paths false told told' old new volume volume' result =
    DoesPaths (IsSet setting T folder) (IsUnset setting T folder) paths told told' old new volume volume' result
SetsPaths T folder setting paths true told told' old new volume volume' result =
    TellsPaths (SetsTree setting T folder) (SetsTreeUpTo setting T folder) paths told told' old new volume volume' result

-- there may be no memory for the mode
abbrev pub ModesDo : Types → ℕ → List ℕ → List (List ℕ) → Bool → Told → Told → StoreState → StoreState → Volume → Volume
    → Result (Unit {0}) Fault → Type 0
ModesDo T folder mode paths recursive told told' old new volume volume' result =
    ((IsModeTold mode None ⊎ (result ≡ Err NoMemory)) × IsUndone told told' old new volume volume' result)
    ⊎ ((modes : Modes) × IsModeTold mode (Some modes) × SetsPaths T folder (setting.Modes modes) paths recursive told told' old new volume volume' result)

abbrev pub OwnersDo : Types → ℕ → List ℕ → List (List ℕ) → Bool → Told → Told → StoreState → StoreState → Volume → Volume
    → Result (Unit {0}) Fault → Type 0
OwnersDo T folder owner paths recursive told told' old new volume volume' result =
    (IsOwnersTold owner None × IsUndone told told' old new volume volume' result)
    ⊎ ((owners : Owners) × IsOwnersTold owner (Some owners)
    × SetsPaths T folder (setting.Owners owners) paths recursive told told' old new volume volume' result)

-- date: the text, if there is one; where there is none the clock's time is set
abbrev pub TimesDo : Types → ℕ → Option (List ℕ) → List (List ℕ) → Told → Told → StoreState → StoreState → Volume → Volume
    → Result (Unit {0}) Fault → Type 0
TimesDo T folder None paths told told' old new volume volume' result =
    DoesPaths (Touches None T folder) (IsUntouched None T folder) paths told told' old new volume volume' result
TimesDo T folder (Some date) paths told told' old new volume volume' result =
    (IsTold (IsTime date) None × IsUndone told told' old new volume volume' result)
    ⊎ ((time : ℤ) × IsTime date time
    × DoesPaths (Touches (Some time) T folder) (IsUntouched (Some time) T folder) paths told told' old new volume volume' result)

abbrev pub RemovesPaths : Types → ℕ → List (List ℕ) → Bool → Bool → Told → Told → StoreState → StoreState → Volume → Volume → Result (Unit {0}) Fault → Type 0
RemovesPaths T folder paths false forced told told' old new volume volume' result =
    DoesPaths (Removes forced T folder) (IsKept T folder) paths told told' old new volume volume' result
RemovesPaths T folder paths true forced told told' old new volume volume' result =
    TellsPaths (RemovesAll forced T folder) (KeepsSome T folder) paths told told' old new volume volume' result

-- goal: the path to which they go; several: whether there are several
abbrev pub CopiesSources : Types → ℕ → List ℕ → Bool → List (List ℕ) → Bool → Told → Told → StoreState → StoreState → Volume → Volume
    → Result (Unit {0}) Fault → Type 0
CopiesSources T folder goal several paths false told told' old new volume volume' result =
    CopiesPaths T folder goal several paths told told' old new volume volume' result
CopiesSources T folder goal several paths true told told' old new volume volume' result =
    CopiesTrees T folder goal several paths told told' old new volume volume' result

-- lines: whether standard input has the lines of a shell; nothing is kept of files with several names before
abbrev pub PutsPaths : Types → ℕ → List ℕ → Bool → List (List ℕ) → Told → Told → StoreState → StoreState → Volume → Volume → Result (Unit {0}) Fault → Type 0
PutsPaths T folder goal several sources told told' old new volume volume' result = (lines : Bool)
    × PutsAll lines goal several 1048576 sources result (line_of T old folder volume told) (line_of T new folder volume' told')

-- a word that only looks does nothing
abbrev pub NamesDo : Types → ℕ → Word → Told → Told → StoreState → StoreState → Volume → Volume → Result (Unit {0}) Fault → Type 0
NamesDo T folder (Put sources path) told told' old new volume volume' result =
    PutsPaths T folder path.now (nat_lt 1 (length sources.items)) (map (λ source. source.now) sources.items) told told' old new volume volume' result
NamesDo T folder (Copy paths to recursive) told told' old new volume volume' result =
    CopiesSources T folder to.now (nat_lt 1 (length paths.items)) (map (λ path. path.now) paths.items) recursive told told' old new volume volume' result
NamesDo T folder (Move paths to) told told' old new volume volume' result =
    DoesPaths (Moves T folder to.now (nat_lt 1 (length paths.items))) (IsUnmoved T folder to.now (nat_lt 1 (length paths.items)))
    (map (λ path. path.now) paths.items) told told' old new volume volume' result
NamesDo T folder (Remove paths recursive forced) told told' old new volume volume' result =
    RemovesPaths T folder (map (λ path. path.now) paths.items) recursive forced told told' old new volume volume' result
NamesDo T folder (MakeFolder paths parents) told told' old new volume volume' result =
    DoesPaths (Makes parents T folder) (IsLeftUnmade parents T folder) (map (λ path. path.now) paths.items) told told' old new volume volume' result
NamesDo T folder (RemoveFolder paths) told told' old new volume volume' result =
    DoesPaths (GivesUpFolder T folder) (IsFolderKept T folder) (map (λ path. path.now) paths.items) told told' old new volume volume' result
NamesDo T folder other told told' old new volume volume' result = (told' ≡ told) × IsSame old new volume volume'

abbrev pub WordDoes : Types → ℕ → Word → Told → Told → StoreState → StoreState → Volume → Volume → Result (Unit {0}) Fault → Type 0
WordDoes T folder (Link target path symbolic) told told' old new volume volume' result =
    (told' ≡ told) × MatchResult result (λ done. Links T folder (linking_of symbolic) target.now path.now old new volume volume')
    (λ fault. IsUnlinked T folder (linking_of symbolic) target.now path.now old new volume volume')
WordDoes T folder (ChangeMode mode paths recursive) told told' old new volume volume' result =
    ModesDo T folder mode.now (map (λ path. path.now) paths.items) recursive told told' old new volume volume' result
WordDoes T folder (ChangeOwner owner paths recursive) told told' old new volume volume' result =
    OwnersDo T folder owner.now (map (λ path. path.now) paths.items) recursive told told' old new volume volume' result
WordDoes T folder (Touch paths date) told told' old new volume volume' result =
    TimesDo T folder (option_copied date) (map (λ path. path.now) paths.items) told told' old new volume volume' result
WordDoes T folder (Truncate paths size) told told' old new volume volume' result =
    DoesPaths (Sizes size T folder) (IsUnsized size T folder) (map (λ path. path.now) paths.items) told told' old new volume volume' result
WordDoes T folder word told told' old new volume volume' result = NamesDo T folder word told told' old new volume volume' result

-- the disk is opened without rights to write for these words
abbrev pub only_looks : Word → Bool
only_looks (ListFolders paths form) = true
only_looks (Tree path) = true
only_looks (Cat paths) = true
only_looks (Stat paths is_json) = true
only_looks (ReadLink paths) = true
only_looks (Find paths name kind) = true
only_looks (DiskUsage paths is_summary is_human) = true
only_looks (FreeSpace is_json is_human) = true
only_looks (Get paths target) = true
only_looks (Check is_repairing is_json) = not is_repairing
only_looks other = false

-- what a crash left was mended when the volume was opened
abbrev pub looks : Word → Bool
looks (Check is_repairing is_json) = true
looks word = only_looks word

-- what could not be seen may be told
abbrev pub RunsWord : Types → ℕ → Word → Told → Told → StoreState → StoreState → Volume → Volume → Result (Unit {0}) Fault → Type 0
RunsWord T folder word told told' old new volume volume' result =
    MatchBool (looks word) (IsSame old new volume volume') (WordDoes T folder word told told' old new volume volume' result)
