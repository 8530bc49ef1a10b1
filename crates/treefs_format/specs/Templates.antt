-- The templates of the two types, in the order node, inode.
--     IsTree T node inode    these two types are installed, and own what the layout reads
use Rattle.std.specs.Prelude.{◌≡◌, ℕ, List, [], ◌∷◌, ◌++◌, filter_map, take, drop, IsTrue}
use Rattle.xn_model.specs.Root.{unless_empty}
use Rattle.xn_model.specs.Types.{Types}
use Rattle.udf_code.specs.declared.word.Word.{Word}
use Rattle.udf_code.specs.declared.word.Word.TheVariants.{Set, Add, Mul, Load1, Load4, Emit, IfLess, End, For}
use Rattle.udf_verify.specs.declared.fault.Role.TheVariants as role
use Rattle.templates.specs.Templates.{TemplateValue}
use Rattle.templates.specs.BuiltIns.{fixed_size}
use Rattle.treefs_format.specs.Inodes.{pointers_of}
use Rattle.treefs_format.specs.Nodes.{child_type_of, children_of}
use Rattle.std.specs.Prelude.{slice_index}

-- a node: the type in its byte 0, and 127 pointers from byte 4 on
abbrev pub node_words : List Word
node_words =
    Load1 1 0
    ∷ Set 2 4
    ∷ For 3 127
    ∷ Mul 4 3 2
    ∷ Add 4 4 2
    ∷ Load4 5 4
    ∷ IfLess 0 5
    ∷ Emit 5 1
    ∷ End
    ∷ End
    ∷ []

-- an inode: 16 pointers from byte 48 on, of the type in byte 0, and 4 from byte 112 on, of the type in byte 1
abbrev pub inode_words : List Word
inode_words =
    Load1 1 0
    ∷ Set 2 1
    ∷ Load1 2 2
    ∷ Set 3 4
    ∷ Set 4 48
    ∷ For 5 16
    ∷ Mul 6 5 3
    ∷ Add 6 6 4
    ∷ Load4 7 6
    ∷ IfLess 0 7
    ∷ Emit 7 1
    ∷ End
    ∷ End
    ∷ Set 4 112
    ∷ For 5 4
    ∷ Mul 6 5 3
    ∷ Add 6 6 4
    ∷ Load4 7 6
    ∷ IfLess 0 7
    ∷ Emit 7 2
    ∷ End
    ∷ End
    ∷ []

-- all bytes of a block may be used
unfoldable pub node_template : TemplateValue
node_template = record { owns = record { words = node_words; role = role.Owns }; size = fixed_size 512 }

unfoldable pub inode_template : TemplateValue
inode_template = record { owns = record { words = inode_words; role = role.Owns }; size = fixed_size 512 }

-- those blocks that are not 0, each with this type
abbrev pub with_type : ℕ → List ℕ → List (ℕ × ℕ)
with_type ty blocks = filter_map (λ block. unless_empty (block, ty)) blocks

abbrev pub node_pairs : List ℕ → List (ℕ × ℕ)
node_pairs m = with_type (child_type_of m) (children_of m)

abbrev pub inode_pairs : List ℕ → List (ℕ × ℕ)
inode_pairs m = with_type (slice_index m 0) (take 16 (pointers_of m)) ++ with_type (slice_index m 1) (drop 16 (pointers_of m))

pub record IsTree (T : Types) (node inode : ℕ) : Type 0 where
  pub node_installed : IsTrue (T.installed node)
  pub inode_installed : IsTrue (T.installed inode)
  pub node_owns : (m : List ℕ) → T.owned node m ≡ node_pairs m
  pub inode_owns : (m : List ℕ) → T.owned inode m ≡ inode_pairs m
  pub node_size : (m : List ℕ) → T.size node m ≡ 512
  pub inode_size : (m : List ℕ) → T.size inode m ≡ 512
