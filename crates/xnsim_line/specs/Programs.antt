-- Programs that are verified.
use Rattle.std.specs.Prelude.{◌≡◌, ◌⊎◌, ℕ, List, [], ◌∷◌, ◌++◌, length, Option, Err, IsOk, codes}
use Rattle.std.specs.Fmt.{decimal}
use Rattle.std.specs.Io.KnownBytes.{Appends}
use Rattle.udf_code.specs.declared.word.Word.{Word}
use Rattle.udf_code.specs.Reading.{tree_of}
use Rattle.udf_asm.specs.Assembly.{assembled, no_memory}
use Rattle.udf_asm.specs.Printing.{IsText}
use Rattle.udf_verify.specs.declared.fault.FaultKind.TheVariants as kind
use Rattle.udf_verify.specs.declared.fault.Role.{Role}
use Rattle.udf_verify.specs.Program.{Program}
use Rattle.udf_verify.specs.Verdict.{cost, emits, program_verdict, IsAccepted}
use Rattle.xnsim_line.specs.declared.fault.Fault.{Fault}
use Rattle.xnsim_line.specs.declared.fault.Fault.TheVariants as fault
use Rattle.xnsim_line.specs.declared.program_fault.ProgramFault.{ProgramFault}
use Rattle.xnsim_line.specs.declared.program_fault.ProgramFault.TheVariants.{Text, Rule}

-- the line of an accepted program, with its greatest cost and count of pairs
abbrev pub accepted_line : ℕ → ℕ → List ℕ
accepted_line cost emits = codes "accepted cost " ++ decimal cost ++ codes " emits " ++ decimal emits ++ 10 ∷ []

-- the text is that of this program, which is accepted for the role
pub record IsProgramOf (text : List ℕ) (role : Role) (program : Program) : Type 0 where
  pub for_role : program.role ≡ role
  pub written : IsText program.words text
  pub accepted : IsAccepted role (tree_of program.words)

-- the text is that of an accepted program, whose line was printed
pub record PrintsAccepted (text : List ℕ) (role : Role) (old new : Option (List ℕ)) : Type 0 where
  pub words : List Word
  pub written : IsText words text
  pub accepted : IsAccepted role (tree_of words)
  pub printed : Appends old new (accepted_line (cost (tree_of words)) (emits (tree_of words)))

-- what is wrong with the text, else with its program; or want of memory, where the text is a program's, or the program is accepted
abbrev pub IsProgramFault : List ℕ → Role → ProgramFault → Type 0
IsProgramFault text role (Text fault) = ((fault ≡ no_memory) × IsOk (assembled text)) ⊎ (assembled text ≡ Err fault)
IsProgramFault text role (Rule fault) = (words : List Word) × IsText words text
    × ((program_verdict role (tree_of words) ≡ Err fault) ⊎ ((fault ≡ record { at = length words; kind = kind.NoMemory }) × IsAccepted role (tree_of words)))

-- why nothing was printed: that, or the output failed
abbrev pub IsTextFault : List ℕ → Role → Fault → Type 0
IsTextFault text role (fault.Program found) = IsProgramFault text role found
IsTextFault text role other = other ≡ fault.Stream
