use Rattle.std.specs.Prelude.{◌≡◌, ◌≢◌, ◌<◌, ◌≤◌, ◌^◌, ◌⊎◌, ℕ, Option, None, Some, IfSome, Bool, true, false, if◌then◌else◌, List, [], ◌∷◌, ◌++◌, map}
use Rattle.std.specs.Prelude.{slice_index, codes, string_bytes, All}
use Rattle.std.specs.Fmt.{decimal}
use Rattle.templates.specs.Formats.{most_formatted}
use Rattle.clap.specs.declared.error.kind.ErrorKind.{ErrorKind}
use Rattle.clap.specs.declared.error.kind.ErrorKind.TheVariants.{OutOfMemory}
use Rattle.xnsim_line.specs.declared.invocation.LineFault.{LineFault}
use Rattle.xnsim_line.specs.declared.invocation.LineFault.TheVariants.{NoMemory, Usage}
use Rattle.xnsim_line.specs.declared.invocation.Invocation.{Invocation}
use Rattle.xnsim_line.specs.declared.invocation.Stop.{Stop}
use Rattle.xnsim_line.specs.declared.invocation.Invocation.TheVariants.{Bare, Format, Run, Check, Asm, Verify}
use Rattle.udf_verify.specs.declared.fault.Role.{Role}
use Rattle.udf_verify.specs.declared.fault.Role.TheVariants.{Owns, Size}

-- the word that names a role
abbrev pub role_name : Role → List ℕ
role_name Owns = codes "owns"
role_name Size = codes "size"

-- the word that asks for the templates of the library's file system, or none
abbrev pub file_system_words : Bool → List (List ℕ)
file_system_words file_system = if file_system then codes "--ffs" ∷ [] else []

-- the words behind a script: none, or after how many block writes the run is to stop, and whether it then loses what is not settled
abbrev pub lose_words : Bool → List (List ℕ)
lose_words false = []
lose_words true = codes "--lose" ∷ []

abbrev pub stop_words : Option Stop → List (List ℕ)
stop_words None = []
stop_words (Some stop) = codes "--stop" ∷ decimal stop.writes ∷ lose_words stop.loses

-- a word that doesn't begin with `-`
abbrev pub IsName : List ℕ → Type 0
IsName word = slice_index word 0 ≢ 45

-- words of which the command line's reader finds three: a command, and two that don't begin with `-`
pub record IsThreeWords (words : List (List ℕ)) : Type 0 where
  pub first : List ℕ
  pub second : List ℕ
  pub command : (words ≡ codes "format" ∷ first ∷ second ∷ []) ⊎ (words ≡ codes "run" ∷ first ∷ second ∷ [])
      ⊎ (words ≡ codes "asm" ∷ first ∷ second ∷ []) ⊎ (words ≡ codes "verify" ∷ first ∷ second ∷ [])
  pub first_name : IsName first
  pub second_name : IsName second

-- the fault of a line that its reader refuses
abbrev pub fault_of_kind : ErrorKind → LineFault
fault_of_kind OutOfMemory = NoMemory
fault_of_kind _ = Usage

-- the word `--ffs` is cut off where it is the first of the words
pub record CutsFileSystem (words : List (List ℕ)) (file_system : Bool) (rest : List (List ℕ)) : Type 0 where
  pub spelled : words ≡ file_system_words file_system ++ rest
  pub cut : file_system ≡ false → (more : List (List ℕ)) → words ≢ codes "--ffs" ∷ more

-- the words behind a count of blocks: perhaps that word, and then names of files
pub record IsTemplateWords (words : List (List ℕ)) (file_system : Bool) (names : List (List ℕ)) : Type 0 where
  pub spelled : words ≡ file_system_words file_system ++ names
  pub named : All IsName names

-- the words behind a script
pub record IsStopWords (words : List (List ℕ)) (stop : Option Stop) : Type 0 where
  pub spelled : words ≡ stop_words stop
  pub small : IfSome stop (λ stop. stop.writes < 2 ^ 64)

-- the words of a line
abbrev pub IsLine : List (List ℕ) → Invocation → Type 0
IsLine words Bare = words ≡ []
IsLine words (Format image blocks file_system templates) =
    (rest : List (List ℕ)) × (words ≡ codes "format" ∷ image.now ∷ decimal blocks ∷ rest) × IsName image.now × (32 ≤ blocks) × (blocks ≤ most_formatted)
    × IsTemplateWords rest file_system (map string_bytes templates.now)
IsLine words (Run image script stop) =
    (rest : List (List ℕ)) × (words ≡ codes "run" ∷ image.now ∷ script.now ∷ rest) × IsName image.now × IsName script.now × IsStopWords rest stop
IsLine words (Check image) = (words ≡ codes "check" ∷ image.now ∷ []) × IsName image.now
IsLine words (Asm owns size block) =
    (words ≡ codes "asm" ∷ owns.now ∷ size.now ∷ block.now ∷ []) × IsName owns.now × IsName size.now × IsName block.now
IsLine words (Verify text role) = (words ≡ codes "verify" ∷ text.now ∷ role_name role ∷ []) × IsName text.now

-- words that are no line of the program
abbrev pub IsNoLine : List (List ℕ) → Type 0
IsNoLine words = (asked : Invocation) → ¬ IsLine words asked
