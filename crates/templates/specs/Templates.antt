-- A template says how blocks of a type are read, by two programs. It is spelled by one block.
--     IsTemplate t          its programs are accepted for their roles, and are 127 words at most together
--     template_bytes t      the 512 bytes of its block
use Rattle.std.specs.Prelude.{◌≡◌, ℕ, ◌+◌, ◌-◌, ◌*◌, ◌≤◌, List, [], ◌∷◌, ◌++◌, length}
use Rattle.udf_code.specs.Bytes.{encoded}
use Rattle.udf_verify.specs.declared.fault.Role.TheVariants as role
use Rattle.udf_verify.specs.Program.{Program, IsChecked}
use Rattle.xn_model.specs.BareDisks.{zeros}

pub record TemplateValue : Type 0 where
  -- emits the blocks that a block of the type points to, each with its type
  pub owns : Program
  -- answers from which byte on a block of the type is 0
  pub size : Program

-- the programs that one template may have
pub record FitTogether (owns size : Program) : Type 0 where
  pub owns_role : owns.role ≡ role.Owns
  pub size_role : size.role ≡ role.Size
  pub short : length owns.words + length size.words ≤ 127

pub record IsTemplate (template : TemplateValue) : Type 0 where
  pub together : FitTogether template.owns template.size
  pub owns_checked : IsChecked template.owns
  pub size_checked : IsChecked template.size

-- the mark of a template's block
abbrev pub template_mark : List ℕ
template_mark = 0x58 ∷ 0x54 ∷ []

-- the mark and how many words each program has, their words one program after the other, then zeros
unfoldable pub template_bytes : TemplateValue → List ℕ
template_bytes t =
    (0x58 ∷ 0x54 ∷ length t.owns.words ∷ length t.size.words ∷ [])
    ++ (encoded t.owns.words ++ (encoded t.size.words ++ zeros (508 - 4 * (length t.owns.words + length t.size.words))))
