-- The template that a block spells, or why it spells none: first its mark, then its code, then what the verifier says of
-- its programs, last the bytes after them.
use Rattle.std.specs.Prelude.{ℕ, ◌+◌, ◌*◌, Bool, nat_le, bytes_eq, if◌then◌else◌, List, take, drop, slice_index, slice_range, Result, Ok, Err}
use Rattle.std.specs.Result.{result_map_both}
use Rattle.udf_code.specs.declared.word.Word.{Word}
use Rattle.udf_code.specs.Structure.{◌>>=◌}
use Rattle.udf_code.specs.Decoding.{decoded}
use Rattle.udf_code.specs.Reading.{tree_of}
use Rattle.udf_verify.specs.declared.fault.Role.{Role}
use Rattle.udf_verify.specs.declared.fault.Role.TheVariants as role
use Rattle.udf_verify.specs.Verdict.{program_verdict}
use Rattle.udf_verify.specs.Program.{Program}
use Rattle.xn_model.specs.Lists.{blank}
use Rattle.templates.specs.declared.fault.TemplateFault.{TemplateFault}
use Rattle.templates.specs.declared.fault.TemplateFault.TheVariants.{BadMark, BadCode, NotVerified, BytesAfter}
use Rattle.templates.specs.Templates.{TemplateValue, template_mark}

-- a fault, unless a condition is met
abbrev pub fault_unless : Bool → TemplateFault → Result (Unit {0}) TemplateFault
fault_unless met fault = if met then Ok (tt {0}) else Err fault

-- how many words each program has
abbrev pub owns_count : List ℕ → ℕ
owns_count m = slice_index m 2

abbrev pub size_count : List ℕ → ℕ
size_count m = slice_index m 3

-- the byte behind each program
abbrev pub owns_end : List ℕ → ℕ
owns_end m = 4 + 4 * owns_count m

abbrev pub size_end : List ℕ → ℕ
size_end m = owns_end m + 4 * size_count m

-- the first fault of a block's first four bytes
unfoldable pub head_of : List ℕ → Result (Unit {0}) TemplateFault
head_of m = do
  _ ← fault_unless (bytes_eq (take 2 m) template_mark) BadMark
  fault_unless (nat_le (owns_count m + size_count m) 127) BadCode

-- the words that code is
abbrev pub words_of_code : List ℕ → Result (List Word) TemplateFault
words_of_code code = result_map_both (λ words. words) (λ fault. BadCode) (decoded code)

-- the program of words that are accepted
abbrev pub program_of_words : Role → List Word → Result Program TemplateFault
program_of_words role words = result_map_both (λ final. record { words = words; role = role }) (λ fault. NotVerified) (program_verdict role (tree_of words))

-- the template whose two programs have this code
unfoldable pub template_of_code : List ℕ → List ℕ → Result TemplateValue TemplateFault
template_of_code owns_code size_code = do
  owns_words ← words_of_code owns_code
  size_words ← words_of_code size_code
  owns ← program_of_words role.Owns owns_words
  size ← program_of_words role.Size size_words
  Ok (record { owns = owns; size = size })

-- the template that a block spells
unfoldable pub template_of_bytes : List ℕ → Result TemplateValue TemplateFault
template_of_bytes m = do
  _ ← head_of m
  template ← template_of_code (slice_range m 4 (owns_end m)) (slice_range m (owns_end m) (size_end m))
  _ ← fault_unless (blank (drop (size_end m) m)) BytesAfter
  Ok template
