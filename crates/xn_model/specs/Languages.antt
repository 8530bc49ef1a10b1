-- Which blocks are templates, and the types that a catalogue gives by them.
--     Language             what each block says, read as a template
--     types_in L content   the types of the catalogue in block 0: 0 to 2 are built in, and type 3 + i is the template that place i names
--     Extends T more       more types, among them the first ones with the same meaning
use Rattle.std.specs.Prelude.{◌≡◌, ℕ, ◌-◌, cond, ◌==◌, nat_lt, List, [], Option, Some, None, is_some, IsTrue}
use Rattle.xn_model.specs.Types.{Types}
use Rattle.xn_model.specs.Root.{pointer, owned_by_root}

-- What a template says of a block of its type.
pub record Template : Type 0 where
  -- the blocks that it points to, each with its type
  pub owned : List ℕ → List (ℕ × ℕ)
  -- from which byte on it is 0
  pub size : List ℕ → ℕ

-- The template in a block's bytes, if they are one. How programs are spelled and run stays out of this theory.
abbrev pub Language : Type 0
Language = List ℕ → Option Template

abbrev pub root_template : Template
root_template = record { owned = owned_by_root; size = λ m. 328 }

-- of types 1 and 2
abbrev pub data_template : Template
data_template = record { owned = λ m. []; size = λ m. 512 }

-- the template in the block that a pointer of block 0 names; a pointer of 0 names none
abbrev pub language_template_named : Language → (ℕ → List ℕ) → ℕ → Option Template
language_template_named L content block = cond (block == 0) None (L (content block))

-- the template of a type
abbrev pub language_template : Language → (ℕ → List ℕ) → ℕ → Option Template
language_template L content t =
    cond (t == 0) (Some root_template)
    (cond (nat_lt t 3) (Some data_template)
    (cond (nat_lt t 19) (language_template_named L content (pointer (content 0) (t - 3))) None))

-- without a template a block points to nothing and may use all its bytes
abbrev pub owned_by_template : Option Template → List ℕ → List (ℕ × ℕ)
owned_by_template None m = []
owned_by_template (Some t) m = t.owned m

abbrev pub size_by_template : Option Template → List ℕ → ℕ
size_by_template None m = 512
size_by_template (Some t) m = t.size m

-- by what is read of each block
unfoldable pub types_in : Language → (ℕ → List ℕ) → Types
types_in L content = record {
  installed = λ t. is_some (language_template L content t);
  owned = λ t m. owned_by_template (language_template L content t) m;
  size = λ t m. size_by_template (language_template L content t) m;
  template = λ m. is_some (L m);
}

pub record Extends (T more : Types) : Type 0 where
  pub installed : (t : ℕ) → IsTrue (T.installed t) → IsTrue (more.installed t)
  pub owned : (t : ℕ) → IsTrue (T.installed t) → more.owned t ≡ T.owned t
  pub size : (t : ℕ) → IsTrue (T.installed t) → more.size t ≡ T.size t
  pub template : more.template ≡ T.template
