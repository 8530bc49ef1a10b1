-- Pointers in an inode are dropped: of the trees and of the leaves that begin at or past a leaf.
--     tree_pointers, leaf_pointers    those of them that are not 0: from the highest tree down; rising
--     pointers_act                    one edit: zeros over each pointer to a tree, and over the leaves' from the first to the last
--     IsRootsPlanned, HasNoRoots      what that takes; there are none
use Rattle.std.specs.Prelude.{◌≡◌, ℕ, ◌+◌, ◌-◌, ◌==◌, nat_le, List, [], ◌∷◌, ◌++◌, flat_map, map, replicate, None, if◌then◌else◌}
use Rattle.std.specs.List.{range_with_len}
use Rattle.xn_model.specs.Calls.{Patch}
use Rattle.treefs_format.specs.Paths.{first_leaf, leaf_offset, tree_offset}
use Rattle.treefs_model.specs.Acts.{Act}
use Rattle.treefs_model.specs.Reading.{pointed}
use Rattle.treefs_edits.specs.Plans.{Plan}
use Rattle.treefs_byte_plans.specs.Fields.{bytes_patch}
use Rattle.treefs_byte_plans.specs.declared.roots_plan.Pointer.{Pointer}
use Rattle.treefs_byte_plans.specs.declared.roots_plan.RootsPlan.{RootsPlan}

-- the pointer at an offset, if it leads to a block
abbrev pub pointer_if : (ℕ → List ℕ) → ℕ → ℕ → List Pointer
pointer_if content inode offset = if pointed content inode offset == 0 then [] else record { offset = offset; block = pointed content inode offset } ∷ []

abbrev pub tree_pointer : (ℕ → List ℕ) → ℕ → ℕ → ℕ → List Pointer
tree_pointer content inode keep h = if nat_le keep (first_leaf h) then pointer_if content inode (tree_offset h) else []

abbrev pub tree_pointers : (ℕ → List ℕ) → ℕ → ℕ → List Pointer
tree_pointers content inode keep =
    tree_pointer content inode keep 4 ++ (tree_pointer content inode keep 3 ++ (tree_pointer content inode keep 2 ++ tree_pointer content inode keep 1))

abbrev pub leaf_pointers : (ℕ → List ℕ) → ℕ → ℕ → List Pointer
leaf_pointers content inode keep = flat_map (λ leaf. pointer_if content inode (leaf_offset leaf)) (range_with_len keep (16 - keep))

-- Acts

abbrev pub tree_patch : Pointer → Patch
tree_patch p = bytes_patch p.offset (replicate 4 0)

-- the offset of the last of some pointers
abbrev pub last_offset : ℕ → List Pointer → ℕ
last_offset offset [] = offset
last_offset offset (p ∷ pointers) = last_offset p.offset pointers

abbrev pub leaf_patches : List Pointer → List Patch
leaf_patches [] = []
leaf_patches (p ∷ pointers) = bytes_patch p.offset (replicate (last_offset p.offset pointers + 4 - p.offset) 0) ∷ []

abbrev pub blocks_of : List Pointer → List ℕ
blocks_of pointers = map (λ p. p.block) pointers

abbrev pub pointers_act : ℕ → List Pointer → List Pointer → Act
pointers_act inode trees leaves = record {
  block = inode;
  edit = record { patches = map tree_patch trees ++ leaf_patches leaves; adds = []; drops = blocks_of trees ++ blocks_of leaves; after = None };
  behind = None;
}

abbrev pub roots_plan : RootsPlan → Plan
roots_plan p = record { starts = []; acts = λ begun. pointers_act p.inode p.trees.items p.leaves.items ∷ [] }

pub record IsRootsPlanned (content : ℕ → List ℕ) (inode keep : ℕ) (plan : RootsPlan) : Type 0 where
  pub inode_is : plan.inode ≡ inode
  pub trees_are : plan.trees.items ≡ tree_pointers content inode keep
  pub leaves_are : plan.leaves.items ≡ leaf_pointers content inode keep

pub record HasNoRoots (content : ℕ → List ℕ) (inode keep : ℕ) : Type 0 where
  pub trees : tree_pointers content inode keep ≡ []
  pub leaves : leaf_pointers content inode keep ≡ []
