-- What is kept of files of the system with several names: their numbers by device and inode, and these by the number.
--     number_kept        the number under which one was put, if it was
--     Notes              a number is kept of it, both ways, where it has several names
--     IsUnnoted          there was no memory for that
--     Forgets            what has the name of a place is forgotten
use Rattle.std.specs.Prelude.{◌≡◌, ◌⊎◌, ℕ, ◌<◌, ◌≤◌, List, Option, Some}
use Rattle.std.specs.Ordering.{nat_cmp, ordering_then}
use Rattle.std.specs.BTreeMap.{BTreeMap, IsUnchanged, get, insert_entry, is_at}
use Rattle.std.specs.declared.cmp.Ordering.{Ordering}
use Rattle.std.specs.Map.{remove_entry}
use Rattle.xn_model.specs.Lives.{StoreState}
use Rattle.host_trees.specs.declared.attributes.Attributes.{Attributes as Told}
use Rattle.tree_lines.specs.Values.{Volume}
use Rattle.tree_lines.specs.Trees.{IsThereIn}
use Rattle.tree_lines.specs.declared.node.Node.{Node}

abbrev pub source_cmp : ℕ × ℕ → ℕ × ℕ → Ordering
source_cmp a b = ordering_then (nat_cmp a.0 b.0) (nat_cmp a.1 b.1)

abbrev pub number_kept : BTreeMap (ℕ × ℕ) ℕ → Told → Option ℕ
number_kept linked told = get source_cmp linked (told.device, told.inode)

abbrev pub Notes : Told → ℕ → BTreeMap (ℕ × ℕ) ℕ → BTreeMap (ℕ × ℕ) ℕ → BTreeMap ℕ (ℕ × ℕ) → BTreeMap ℕ (ℕ × ℕ) → Type 0
Notes told number linked linked' sources sources' = ((told.links ≤ 1) × IsUnchanged linked linked' × IsUnchanged sources sources')
    ⊎ ((1 < told.links) × (linked'.entries ≡ insert_entry source_cmp linked.entries (told.device, told.inode) number)
    × (sources'.entries ≡ insert_entry nat_cmp sources.entries number (told.device, told.inode)))

abbrev pub IsUnnoted : Told → ℕ → BTreeMap (ℕ × ℕ) ℕ → BTreeMap (ℕ × ℕ) ℕ → BTreeMap ℕ (ℕ × ℕ) → BTreeMap ℕ (ℕ × ℕ) → Type 0
IsUnnoted told number linked linked' sources sources' = (1 < told.links) × IsUnchanged sources sources' × (IsUnchanged linked linked'
    ⊎ (linked'.entries ≡ insert_entry source_cmp linked.entries (told.device, told.inode) number))

-- of the number to which the name leads, if one is kept of it
abbrev pub Forgets : StoreState → Volume → ℕ → List ℕ → BTreeMap (ℕ × ℕ) ℕ → BTreeMap (ℕ × ℕ) ℕ → BTreeMap ℕ (ℕ × ℕ) → BTreeMap ℕ (ℕ × ℕ) → Type 0
Forgets state volume directory name linked linked' sources sources' = (IsUnchanged linked linked' × IsUnchanged sources sources')
    ⊎ ((node : Node) × (source : ℕ × ℕ) × IsThereIn state volume directory name (Some node) × (get nat_cmp sources node.number ≡ Some source)
    × (sources'.entries ≡ remove_entry (is_at (nat_cmp node.number)) sources.entries)
    × (linked'.entries ≡ remove_entry (is_at (source_cmp source)) linked.entries))
