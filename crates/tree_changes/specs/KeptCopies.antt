-- What is kept of a copy under way: by the numbers of what has several names, those of their copies, and back.
--     is_kept, copy_kept       whether the copy of a node is kept, and which one is
--     KeepsSame                nothing was kept or forgotten
--     Keeps, LacksRoom         a copy was kept; or there was no memory for it
--     Forgets, ForgetsIfAny    a copy was forgotten; that of a node, if there is one
use Rattle.std.specs.Prelude.{◌≡◌, ◌⊎◌, ℕ, ◌&&◌, nat_lt, Bool, List, Option, None, Some, if◌then◌else◌}
use Rattle.std.specs.Ordering.{nat_cmp}
use Rattle.std.specs.BTreeMap.{get, insert_entry, is_at}
use Rattle.std.specs.Map.{remove_entry}
use Rattle.tree_lines.specs.declared.node.Node.{Node}
use Rattle.tree_changes.specs.declared.copies.Copying.{Copying}

-- of what has several names, where links among what is copied are kept
abbrev pub is_kept : Copying → Node → Bool
is_kept copying node = copying.is_recursive && nat_lt 1 node.links

abbrev pub copy_kept : Copying → Node → Option ℕ
copy_kept copying node = if is_kept copying node then get nat_cmp copying.copied node.number else None

abbrev pub KeepsSame : Copying → Copying → Type 0
KeepsSame old new = (new.copied.entries ≡ old.copied.entries) × (new.sources.entries ≡ old.sources.entries)

abbrev pub kept_in : Bool → List (ℕ × ℕ) → ℕ → ℕ → List (ℕ × ℕ)
kept_in kept entries key value = if kept then insert_entry nat_cmp entries key value else entries

pub record Keeps (old new : Copying) (node : Node) (number : ℕ) : Type 0 where
  pub copied : new.copied.entries ≡ kept_in (is_kept old node) old.copied.entries node.number number
  pub sources : new.sources.entries ≡ kept_in (is_kept old node) old.sources.entries number node.number

-- nothing was kept, or the first half of it
abbrev pub LacksRoom : Copying → Copying → Node → ℕ → Type 0
LacksRoom old new node number = (new.sources.entries ≡ old.sources.entries)
    × ((new.copied.entries ≡ old.copied.entries) ⊎ (new.copied.entries ≡ kept_in (is_kept old node) old.copied.entries node.number number))

abbrev pub without : List (ℕ × ℕ) → Option ℕ → List (ℕ × ℕ)
without entries None = entries
without entries (Some key) = remove_entry (is_at (nat_cmp key)) entries

pub record Forgets (old new : Copying) (number : ℕ) : Type 0 where
  pub copied : new.copied.entries ≡ without old.copied.entries (get nat_cmp old.sources number)
  pub sources : new.sources.entries ≡ without old.sources.entries (Some number)

abbrev pub ForgetsIfAny : Copying → Copying → Option Node → Type 0
ForgetsIfAny old new None = KeepsSame old new
ForgetsIfAny old new (Some node) = Forgets old new node.number
