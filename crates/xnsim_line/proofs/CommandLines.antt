-- The command line's reader takes each line of three words, and finds the words.
use Rattle.std.proofs.Common.{◌≡◌, ◌≢◌, ◌==◌, ℕ, true, false, List, [], ◌∷◌, ◌++◌, length, length-append, Option, Some, None, Result, Ok, Err, IfErr, option_map, codes, ◌^◌, ◌<◌, ◌≤◌, arith, refl, ◌∙◌, ap, inl, inr}
use Rattle.std.specs.Global.{Box}
use Rattle.std.specs.Box.{box_value}
use Rattle.std.specs.Fmt.{decimal}
use Rattle.std.specs.Result.{IsErrAnd}
use Rattle.std.specs.Str.{bytes_eq}
use Rattle.std.proofs.lemmas.Option.{none-some, same_Some}
use Rattle.std.proofs.lemmas.Bool.Decides.{eqb_tells}
use Rattle.std.proofs.lemmas.Fmt.{first_decimal}
use Rattle.templates.specs.Formats.{most_formatted}
use Rattle.clap.specs.Words.{Row, Text, first_of, first_value, found_of, is_simple, rows_of, subcommand_of, subcommand_rows, subcommand_rows_of, takes, HasMatchesOf}
use Rattle.clap.specs.Lexer.{strip_byte}
use Rattle.clap.specs.Matches.{subcommand_name_of}
use Rattle.clap.specs.declared.parser.matches.ArgMatches.{ArgMatches}
use Rattle.clap.specs.declared.parser.matches.ArgMatches.TheViews.{out-ArgMatches, out-SubCommand}
use Rattle.clap.specs.declared.parser.matches.SubCommand.{SubCommand}
use Rattle.clap.specs.declared.error.kind.ErrorKind.{ErrorKind}
use Rattle.clap.specs.declared.error.kind.ErrorKind.TheVariants.{OutOfMemory}
use Rattle.clap.proofs.OnLiterals.{clap_on_literals}
use Rattle.clap.proofs.WalkLemmas.{first_value-rows}
use Rattle.udf_verify.specs.declared.fault.Role.{Role}
use Rattle.udf_verify.specs.declared.fault.Role.TheVariants.{Owns, Size}
use Rattle.xnsim_line.specs.declared.invocation.LineFault.{LineFault}
use Rattle.xnsim_line.specs.declared.invocation.LineFault.TheVariants.{NoMemory, Usage}
use Rattle.xnsim_line.specs.declared.invocation.Invocation.{Invocation}
use Rattle.xnsim_line.specs.declared.invocation.Invocation.TheVariants.{Bare, Format, Run, Check, Asm, Verify}
use Rattle.xnsim_line.specs.CommandLine.{program}
use Rattle.xnsim_line.specs.Lines.{role_name}
use Rattle.xnsim_line.specs.Lines.{fault_of_kind, IsLine, IsName, IsNoLine, IsThreeWords}

-- a byte that isn't `-`, as a test
no_dash : (x : ℕ) → x ≢ 45 → (x == 45) ≡ false
no_dash x other = elim (eqb_tells x 45) [ inl same ↦ absurd (other same.1) | inr apart ↦ apart.0 ]

-- a name is no flag, and not the end of the flags
no_flag : (word : List ℕ) → IsName word → (strip_byte 45 word ≡ None) × (bytes_eq word (45 ∷ 45 ∷ []) ≡ false)
no_flag [] name = (refl, refl)
no_flag (x ∷ xs) name = (simp (no_dash x name) refl, simp (no_dash x name) refl)

-- the two words that were found behind a command
abbrev pub words_in : Option (Text × List Row) → Option (Text × Option Text × Option Text)
words_in = option_map (λ found. (found.0, first_of (codes "first") found.1, first_of (codes "second") found.1))

-- the reader takes these words, and finds them behind a command
pub record IsFound (words : List (List ℕ)) (three : IsThreeWords words) : Type 0 where
  pub name : List ℕ
  pub line : words ≡ name ∷ three.first ∷ three.second ∷ []
  pub taken : takes program (name ∷ three.first ∷ three.second ∷ []) ≡ true
  pub found : words_in (subcommand_of program (name ∷ three.first ∷ three.second ∷ [])) ≡ Some (name, Some three.first, Some three.second)

-- so it is of each command
is_found : (words : List (List ℕ)) (three : IsThreeWords words) → IsFound words three
unfolding clap_on_literals
is_found words three =
    let a = no_flag three.first three.first_name in
    let b = no_flag three.second three.second_name in
    elim three.command [
      | inl line ↦ record { name = codes "format"; line = line; taken = simp (a.0, a.1, b.0, b.1) refl; found = simp (a.0, a.1, b.0, b.1) refl }
      | inr (inl line) ↦ record { name = codes "run"; line = line; taken = simp (a.0, a.1, b.0, b.1) refl; found = simp (a.0, a.1, b.0, b.1) refl }
      | inr (inr (inl line)) ↦ record { name = codes "asm"; line = line; taken = simp (a.0, a.1, b.0, b.1) refl; found = simp (a.0, a.1, b.0, b.1) refl }
      | inr (inr (inr line)) ↦ record { name = codes "verify"; line = line; taken = simp (a.0, a.1, b.0, b.1) refl; found = simp (a.0, a.1, b.0, b.1) refl }
    ]

-- its matches are known from the words
program_is_simple : is_simple program ≡ true
unfolding clap_on_literals
program_is_simple = refl

-- a command and the two words behind it
pub record Shows (o : Option (Text × List Row)) (name first second : List ℕ) : Type 0 where
  pub rows : List Row
  pub met : o ≡ Some (name, rows)
  pub first_is : first_of (codes "first") rows ≡ Some first
  pub second_is : first_of (codes "second") rows ≡ Some second

shows : (o : Option (Text × List Row)) (name first second : List ℕ) → words_in o ≡ Some (name, Some first, Some second) → Shows o name first second
shows None name first second found = absurd (none-some (name, Some first, Some second) found)
shows (Some (n, rows)) name first second found =
    let same = same_Some (n, first_of (codes "first") rows, first_of (codes "second") rows) (name, Some first, Some second) found in
    record { rows = rows; met = ap (λ (m : Text). Some (m, rows)) (ap (λ p. p.0) same); first_is = ap (λ p. p.1) same; second_is = ap (λ p. p.2) same }

-- what the matches show of a line of three words
pub record ShowsLine (words : List (List ℕ)) (m : ArgMatches) : Type 0 where
  pub name : List ℕ
  pub first : List ℕ
  pub second : List ℕ
  pub line : words ≡ name ∷ first ∷ second ∷ []
  pub shown : Shows (subcommand_rows_of m) name first second

pub shows_line : (words : List (List ℕ)) (m : ArgMatches) → HasMatchesOf program words m → IsThreeWords words → ShowsLine words m
shows_line words m matches three =
    let found = is_found words three in
    let met : subcommand_rows_of m ≡ subcommand_of program (found.name ∷ three.first ∷ three.second ∷ []) =
    (matches program_is_simple).1 ∙ ap (subcommand_of program) found.line in
    let shown = shows (subcommand_rows_of m) found.name three.first three.second (ap words_in met ∙ found.found) in
    record { name = found.name; first = three.first; second = three.second; line = found.line; shown = shown }

pub is_taken : (words : List (List ℕ)) → IsThreeWords words → takes program words ≡ true
is_taken words three = let found = is_found words three in ap (takes program) found.line ∙ found.taken

-- the three words, of what the reader's matches answer: the command's name, its arguments, and their values
module _ (words : List (List ℕ)) (m : ArgMatches) (line : ShowsLine words m) where
  -- there is a command
  pub name_met : subcommand_name_of m ≡ Some line.name
  name_met = go (out-ArgMatches m).subcommand ∙ ap (option_map (λ p. p.0)) line.shown.met
    where
      go : (o : Option (Box SubCommand)) → option_map (λ b. (out-SubCommand (box_value b)).name.now) o ≡ option_map (λ p. p.0) (subcommand_rows o)
      go None = refl
      go (Some b) = refl

  rows_met : (behind : ArgMatches) → Some (rows_of (found_of behind)) ≡ option_map (λ p. p.1) (subcommand_rows_of m) → rows_of (found_of behind) ≡ line.shown.rows
  rows_met behind met = same_Some (rows_of (found_of behind)) line.shown.rows (met ∙ ap (option_map (λ p. p.1)) line.shown.met)

  -- it has two words behind it
  pub first_met : (behind : ArgMatches) → Some (rows_of (found_of behind)) ≡ option_map (λ p. p.1) (subcommand_rows_of m) → first_value (found_of behind) (codes "first") ≡ Some line.first
  first_met behind met = first_value-rows (found_of behind) (codes "first") ∙ (ap (first_of (codes "first")) (rows_met behind met) ∙ line.shown.first_is)

  pub second_met : (behind : ArgMatches) → Some (rows_of (found_of behind)) ≡ option_map (λ p. p.1) (subcommand_rows_of m) → first_value (found_of behind) (codes "second") ≡ Some line.second
  second_met behind met = first_value-rows (found_of behind) (codes "second") ∙ (ap (first_of (codes "second")) (rows_met behind met) ∙ line.shown.second_is)

-- the decimal spelling of a number doesn't begin with `-`
decimal_is_IsName : (n : ℕ) → 0 < n → n < 2 ^ 64 → IsName (decimal n)
decimal_is_IsName n some small = let first = first_decimal n some small in λ dash. absurd (omega arith)

role_is_IsName : (role : Role) → IsName (role_name role)
role_is_IsName Owns = λ dash. absurd (omega arith)
role_is_IsName Size = λ dash. absurd (omega arith)

three_alike : (a b c x y z : List ℕ) (rest more : List (List ℕ)) → (a ∷ b ∷ c ∷ []) ++ rest ≡ x ∷ y ∷ z ∷ more → a ∷ b ∷ c ∷ [] ≡ x ∷ y ∷ z ∷ []
three_alike a b c x y z rest more same = cc

-- three words, of which a line begins
start_alike : (start rest : List (List ℕ)) (x y z : List ℕ) (more : List (List ℕ)) → length start ≡ 3 → start ++ rest ≡ x ∷ y ∷ z ∷ more → start ≡ x ∷ y ∷ z ∷ []
start_alike [] rest x y z more three same = absurd (omega arith)
start_alike (a ∷ []) rest x y z more three same = absurd (omega arith)
start_alike (a ∷ b ∷ []) rest x y z more three same = absurd (omega arith)
start_alike (a ∷ b ∷ c ∷ []) rest x y z more three same = three_alike a b c x y z rest more same
start_alike (a ∷ b ∷ c ∷ d ∷ others) rest x y z more three same = absurd (omega arith)

-- the first three words of each line of the program but the empty one are those of a command
pub line_is_three : (start rest : List (List ℕ)) → length start ≡ 3 → (asked : Invocation) → IsLine (start ++ rest) asked → IsThreeWords start
line_is_three start rest three Bare line = let none : length (start ++ rest) ≡ 0 = ap length line in absurd (omega (arith, length-append start rest))
line_is_three start rest three (Format image blocks file_system templates) line =
    let least : 32 ≤ blocks = line.3 in
    let greatest : blocks ≤ most_formatted = line.4 in
    let words : start ≡ codes "format" ∷ image.now ∷ decimal blocks ∷ [] = start_alike start rest (codes "format") image.now (decimal blocks) line.0 three line.1 in
    record { first = image.now; second = decimal blocks; command = inl words; first_name = line.2; second_name = decimal_is_IsName blocks (omega arith) (omega arith) }
line_is_three start rest three (Run image script stop) line =
    let words : start ≡ codes "run" ∷ image.now ∷ script.now ∷ [] = start_alike start rest (codes "run") image.now script.now line.0 three line.1 in
    record { first = image.now; second = script.now; command = inr (inl words); first_name = line.2; second_name = line.3 }
line_is_three start rest three (Check image) line = let two : length (start ++ rest) ≡ 2 = ap length line.0 in absurd (omega (arith, length-append start rest))
line_is_three start rest three (Asm owns size block) line =
    let words : start ≡ codes "asm" ∷ owns.now ∷ size.now ∷ [] = start_alike start rest (codes "asm") owns.now size.now (block.now ∷ []) three line.0 in
    record { first = owns.now; second = size.now; command = inr (inr (inl words)); first_name = line.1; second_name = line.2 }
line_is_three start rest three (Verify text role) line =
    let words : start ≡ codes "verify" ∷ text.now ∷ role_name role ∷ [] = start_alike start rest (codes "verify") text.now (role_name role) [] three line.0 in
    record { first = text.now; second = role_name role; command = inr (inr (inr words)); first_name = line.1; second_name = role_is_IsName role }

-- words that the reader refuses for another cause than want of memory begin no line
pub refused_is_no_line : (start rest : List (List ℕ)) (kind : ErrorKind) (r : Result Invocation LineFault) → length start ≡ 3 → (takes program start ≡ true → kind ≡ OutOfMemory) →
    IsErrAnd r (λ fault. fault ≡ fault_of_kind kind) → IfErr r (λ fault. fault ≡ Usage → IsNoLine (start ++ rest))
refused_is_no_line start rest kind (Ok asked) three wants given = tt
refused_is_no_line start rest kind (Err fault) three wants given = λ usage asked line.
    let memory : fault ≡ NoMemory = given ∙ ap fault_of_kind (wants (is_taken start (line_is_three start rest three asked line))) in
    cc
