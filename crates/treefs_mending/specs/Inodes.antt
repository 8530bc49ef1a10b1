-- What is to change of an inode, by the names that lead to it.
--     links_wanted, parent_wanted     how many links it is to have; the directory in which it is to stand
--     inode_plan                      what differs from that
--     inode_acts                      an edit for the links, and one for the parent
use Rattle.std.specs.Prelude.{ℕ, ◌==◌, List, [], ◌∷◌, ◌++◌, Option, None, Some, option_and_then, if◌then◌else◌}
use Rattle.treefs_format.specs.declared.fields.Change.TheVariants.{Parent}
use Rattle.treefs_format.specs.declared.kind.Kind.{Kind}
use Rattle.treefs_format.specs.declared.kind.Kind.TheVariants as kind
use Rattle.treefs_model.specs.Acts.{Act, changes_act}
use Rattle.treefs_lookup.specs.declared.inodes.Found.{Found}
use Rattle.treefs_edits.specs.Kinds.{links_act}
use Rattle.treefs_mending.specs.Tallies.{Tally, tally_at}
pub use Rattle.treefs_mending.specs.declared.inode_plan.InodePlan.{InodePlan}

-- inode 1 has one link and no name
abbrev pub links_wanted : List Tally → ℕ → ℕ
links_wanted tallies n = if n == 1 then 1 else (tally_at tallies n).names

abbrev pub parent_of_tally : Tally → Option ℕ
parent_of_tally tally = if tally.names == 0 then None else Some tally.directory

-- inode 1 stands in itself, and a directory that no name leads to may stand anywhere
abbrev pub parent_wanted : List Tally → ℕ → Option ℕ
parent_wanted tallies n = if n == 1 then Some 1 else parent_of_tally (tally_at tallies n)

abbrev pub if_other : ℕ → ℕ → Option ℕ
if_other now wanted = if now == wanted then None else Some wanted

abbrev pub parent_change : List Tally → ℕ → Found → Kind → Option ℕ
parent_change tallies n inode kind.Directory = option_and_then (λ wanted. if_other inode.fields.parent wanted) (parent_wanted tallies n)
parent_change tallies n inode kind.File = None
parent_change tallies n inode kind.SymbolicLink = None

abbrev pub inode_plan : List Tally → ℕ → Found → InodePlan
inode_plan tallies n inode = record {
  block = inode.block;
  links = if_other inode.fields.links (links_wanted tallies n);
  parent = parent_change tallies n inode inode.kind;
}

-- without times
abbrev pub links_change : ℕ → Option ℕ → List Act
links_change block None = []
links_change block (Some links) = links_act block links None None None ∷ []

abbrev pub parent_changes : ℕ → Option ℕ → List Act
parent_changes block None = []
parent_changes block (Some parent) = changes_act block ((Parent parent ∷ []) ∷ []) None ∷ []

abbrev pub inode_acts : InodePlan → List Act
inode_acts plan = links_change plan.block plan.links ++ parent_changes plan.block plan.parent
