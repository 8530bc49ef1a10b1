-- What a shell does to an open volume, line by line.
--     ended_status      the status of a line that ended so
--     IsFolderAt        a path leads to a folder
--     IsLeftPending     what a word left pending stays so; of a word that only looks nothing is
--     IsWritten         what a word left pending is written; not after a failure of the disk
--     WordThenWritten   what a word does, and then that
--     OfShellDoes       `cd` sets the folder from which relative paths begin, `sync` writes all, `pwd` changes nothing
--     ShellWordDoes     what a word of a shell does
--     ShellLineDoes     what a line does: its word, or nothing; status 0 comes only where the word was done and nothing left out
--     NextLineDoes      the next line is done, if there is one
--     ShellRuns         what some lines do, one behind the other, each at its own time
use Rattle.std.specs.Prelude.{◌≡◌, ◌⊎◌, ℕ, ℤ, max, Bool, false, true, ◌||◌, List, [], ◌∷◌, length}
use Rattle.std.specs.Prelude.{OnOk, Option, Result, Ok, MatchBool, MatchOption, MatchResult}
use Rattle.xn_model.specs.Lives.{StoreState}
use Rattle.xn_model.specs.Types.{Types}
use Rattle.flush_store.specs.Written.{AllWritten}
use Rattle.xnfs_words.specs.declared.word.Word.{Word}
use Rattle.xnfs_words.specs.declared.word.Word.TheVariants.{ChangeFolder, Folder, Sync}
use Rattle.tree_lines.specs.Values.{Volume}
use Rattle.tree_lines.specs.Freeing.{Syncs}
use Rattle.tree_lines.specs.Opening.{with_clock}
use Rattle.tree_lines.specs.Answers.{Answers}
use Rattle.tree_lines.specs.Places.{IsFolder}
use Rattle.tree_lines.specs.Trees.{IsNodeIn}
use Rattle.tree_lines.specs.declared.fault.Fault.{Fault}
use Rattle.tree_lines.specs.declared.node.Node.{Node}
use Rattle.tree_lines.specs.declared.told.Told.{Told}
use Rattle.tree_changes.specs.Paths.{IsSame}
use Rattle.xnfs_line.specs.Words.{RunsWord, only_looks}
use Rattle.xnfs_line.specs.declared.shell.Ended.{Ended}
use Rattle.xnfs_line.specs.declared.shell.Ended.TheVariants.{Broken, Cut, Done, Exit, Failed, TooLong, Unread}

abbrev pub ended_status : Ended → ℕ
ended_status Done = 0
ended_status Exit = 0
ended_status Failed = 1
ended_status Cut = 1
ended_status Broken = 1
ended_status Unread = 2
ended_status TooLong = 2

-- a symbolic link at its end is followed
abbrev pub IsFolderAt : StoreState → Volume → ℕ → List ℕ → ℕ → Type 0
IsFolderAt state volume folder path number = (node : Node) × IsNodeIn state volume folder path true node × IsFolder node × (number ≡ node.number)

-- made: what the word answered
abbrev pub IsLeftPending : Result (Unit {0}) Fault → StoreState → StoreState → Volume → Volume → Result (Unit {0}) Fault → Type 0
IsLeftPending made old new volume volume' result = IsSame old new volume volume' × (result ≡ made)

abbrev pub IsWritten : Types → ℕ → Result (Unit {0}) Fault → StoreState → StoreState → Volume → Volume → Result (Unit {0}) Fault → Type 0
IsWritten T folder made old new volume volume' result =
    MatchResult result
    (λ done. (made ≡ Ok tt) × Syncs T (folder ∷ []) old new volume volume' (Ok tt) × AllWritten new.lives)
    (λ fault. IsSame old new volume volume' ⊎ ((synced : Result (Unit {0}) Fault) × Answers (Syncs T (folder ∷ []) old new volume volume') synced))

-- lazy: what words do is written only at `sync` and at the end
abbrev pub WordThenWritten : Types → Bool → ℕ → Word → Told → Told → StoreState → StoreState → Volume → Volume → Result (Unit {0}) Fault → Type 0
WordThenWritten T lazy folder word told told' old new volume volume' result =
    (made : Result (Unit {0}) Fault) × (middle : StoreState) × (between : Volume) × RunsWord T folder word told told' old middle volume between made
    × MatchBool (lazy || only_looks word) (IsLeftPending made middle new between volume' result) (IsWritten T folder made middle new between volume' result)

-- words that only a shell has
abbrev pub of_shell : Word → Bool
of_shell (ChangeFolder path) = true
of_shell Folder = true
of_shell Sync = true
of_shell other = false

abbrev pub OfShellDoes : Types → ℕ → ℕ → Word → Told → Told → StoreState → StoreState → Volume → Volume → Result (Unit {0}) Fault → Type 0
OfShellDoes T folder folder' (ChangeFolder path) told told' old new volume volume' result =
    (told' ≡ told) × IsSame old new volume volume'
    × MatchResult result (λ done. IsFolderAt old volume folder path.now folder') (λ fault. folder' ≡ folder)
OfShellDoes T folder folder' Sync told told' old new volume volume' result =
    (told' ≡ told) × (folder' ≡ folder) × Answers (Syncs T (folder ∷ []) old new volume volume') result × OnOk result (AllWritten new.lives)
OfShellDoes T folder folder' other told told' old new volume volume' result = (told' ≡ told) × (folder' ≡ folder) × IsSame old new volume volume'

abbrev pub ShellWordDoes : Types → Bool → ℕ → ℕ → Word → Told → Told → StoreState → StoreState → Volume → Volume → Result (Unit {0}) Fault → Type 0
ShellWordDoes T lazy folder folder' word told told' old new volume volume' result =
    MatchBool (of_shell word) (OfShellDoes T folder folder' word told told' old new volume volume' result)
    ((folder' ≡ folder) × WordThenWritten T lazy folder word told told' old new volume volume' result)

abbrev pub ShellLineDoes : Types → Bool → ℕ → ℕ → ℕ → StoreState → StoreState → Volume → Volume → Type 0
ShellLineDoes T lazy status folder folder' old new volume volume' =
    ((folder' ≡ folder) × IsSame old new volume volume')
    ⊎ ((word : Word) × (told : Told) × (told' : Told) × (result : Result (Unit {0}) Fault)
    × ShellWordDoes T lazy folder folder' word told told' old new volume volume' result
    × (status ≡ 0 → (result ≡ Ok tt) × (length told'.faults.items ≡ 0)))

-- nothing where there is none, or a stream fails
abbrev pub NextLineDoes : {E : Type 0} → Types → Bool → ℕ → ℕ → StoreState → StoreState → Volume → Volume → Result (Option Ended) E → Type 0
NextLineDoes T lazy folder folder' old new volume volume' result =
    MatchResult result (λ next. MatchOption next ((folder' ≡ folder) × IsSame old new volume volume')
    (λ ended. (time : ℤ) × ShellLineDoes T lazy (ended_status ended) folder folder' old new (with_clock volume time) volume'))
    (λ fault. (folder' ≡ folder) × IsSame old new volume volume')

-- status: the greatest of the lines
pub data ShellRuns (T : Types) (lazy : Bool) : ℕ → ℕ → ℕ → StoreState → StoreState → Volume → Volume → Type 0 where
  begins : {folder : ℕ} {state : StoreState} {volume : Volume} → ShellRuns T lazy 0 folder folder state state volume volume
  goes_on : {status folder folder' : ℕ} {old new : StoreState} {volume volume' : Volume} (here : ℕ) (middle : StoreState) (between : Volume) (time : ℤ)
      (ended : ℕ) → ShellRuns T lazy status folder here old middle volume between →
      ShellLineDoes T lazy ended here folder' middle new (with_clock between time) volume' →
      ShellRuns T lazy (max status ended) folder folder' old new volume volume'
