-- What a line does to a volume of trees that it changes.
--     shell_of         a word has the lines of a shell, which is lazy or not
--     WordIsRun        another word is done; status 0 comes only where nothing was left out, and a fault only where it had one
--     ShellIsRun       the lines of a shell are, whose greatest status is answered
--     AskedDoes        the one or the other
--     IsReady          the volume is opened, and mended where that is asked
--     ChangesVolume    then the line is done, and then the volume is closed
use Rattle.std.specs.Prelude.{◌≡◌, ◌⊎◌, ℕ, ℤ, Bool, length, IfOk, IsErr, MatchOption, MatchResult, Option, None, Some, Result, Ok}
use Rattle.xn_model.specs.Lives.{StoreState}
use Rattle.xn_model.specs.Types.{Types}
use Rattle.edit_list.specs.declared.fs.Fs.{Fs}
use Rattle.xnfs_words.specs.declared.word.Word.{Word}
use Rattle.xnfs_words.specs.declared.word.Word.TheVariants.{Shell}
use Rattle.tree_lines.specs.Values.{BlockTypes, Volume}
use Rattle.tree_lines.specs.Opening.{Closes, IsOpened, MendsVolume}
use Rattle.tree_lines.specs.declared.fault.Fault.{Fault}
use Rattle.tree_lines.specs.declared.told.Told.{Told}
use Rattle.tree_changes.specs.Paths.{IsSame}
use Rattle.xnfs_line.specs.Shells.{ShellRuns}
use Rattle.xnfs_line.specs.Words.{RunsWord}

abbrev pub shell_of : Word → Option Bool
shell_of (Shell lazy) = Some lazy
shell_of other = None

-- folder: from which relative paths begin; told: what is told when the word begins; result: the status
abbrev pub WordIsRun : {E : Type 0} → Types → Word → ℕ → ℕ → StoreState → StoreState → Volume → Volume → Told → Result ℕ E → Type 0
WordIsRun T word folder folder' old new volume volume' told result =
    (told' : Told) × (made : Result (Unit {0}) Fault) × (folder' ≡ folder) × RunsWord T folder word told told' old new volume volume' made
    × MatchResult result (λ status. (made ≡ Ok tt) × (((status ≡ 0) × (length told'.faults.items ≡ 0)) ⊎ (status ≡ 1))) (λ fault. IsErr made)

abbrev pub ShellIsRun : {E : Type 0} → Types → Bool → ℕ → ℕ → StoreState → StoreState → Volume → Volume → Result ℕ E → Type 0
ShellIsRun T lazy folder folder' old new volume volume' result =
    (status : ℕ) × ShellRuns T lazy status folder folder' old new volume volume' × IfOk result (λ answer. answer ≡ status)

abbrev pub AskedDoes : {E : Type 0} → Types → Word → ℕ → ℕ → StoreState → StoreState → Volume → Volume → Told → Result ℕ E → Type 0
AskedDoes T word folder folder' old new volume volume' told result =
    MatchOption (shell_of word) (WordIsRun T word folder folder' old new volume volume' told result)
    (λ lazy. ShellIsRun T lazy folder folder' old new volume volume' result)

abbrev pub IsReady : Types → Fs → BlockTypes → ℤ → StoreState → StoreState → Volume → Type 0
IsReady T fs types time old new volume = (opened : StoreState) × (mounted : Volume) × IsOpened T old opened fs types time mounted
    × (IsSame opened new mounted volume ⊎ MendsVolume T opened new mounted volume (Ok tt))

-- relative paths begin from the top folder at first, and nothing is told
abbrev pub ChangesVolume : {E : Type 0} → Types → Fs → BlockTypes → ℤ → Word → StoreState → StoreState → Result ℕ E → Type 0
ChangesVolume T fs types time word old new result =
    (begun : StoreState) × (volume : Volume) × (left : StoreState) × (volume' : Volume) × (folder : ℕ) × (told : Told)
    × IsReady T fs types time old begun volume × (length told.faults.items ≡ 0)
    × AskedDoes T word 1 folder begun left volume volume' told result × Closes T left new volume'
