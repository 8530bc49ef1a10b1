-- What is seen of a volume of trees.
--     LeadsTo         where a path leads from a folder on
--     FindsPath       the same, with its fault as a reason; or there is no memory
--     number_seen     the number to which a name in a folder leads
--     node_of         an inode as a node
--     node_seen       what stands at a number
use Rattle.std.specs.Prelude.{◌≡◌, ◌⊎◌, ℕ, ◌%◌, Bool, List, Result, Ok, Err, MatchResult}
use Rattle.xn_model.specs.Lives.{StoreState}
use Rattle.treefs_model.specs.declared.fault.Fault.{Fault}
use Rattle.treefs_lookup.specs.Readable.{readable}
use Rattle.treefs_lookup.specs.declared.inodes.Found.{Found}
use Rattle.treefs_paths.specs.Ways.{Leads, first_way}
use Rattle.treefs_session.specs.Reads.{lookup_of, stat_of}
use Rattle.treefs_session.specs.Values.{Volume}
use Rattle.tree_lines.specs.Reasons.{path_reason_of, reason_of}
use Rattle.tree_lines.specs.declared.node.Node.{Node}
use Rattle.tree_lines.specs.declared.reason.Reason.{Reason}
use Rattle.tree_lines.specs.declared.reason.Reason.TheVariants.{NoMemory}

-- last: whether a symbolic link at the end is followed
abbrev pub LeadsTo : StoreState → Volume → ℕ → List ℕ → Bool → Result ℕ Fault → Type 0
LeadsTo state volume folder path last = Leads (readable state volume.tree.fs.number) volume.tree.top last (first_way folder path)

abbrev pub FindsPath : StoreState → Volume → ℕ → List ℕ → Bool → Result ℕ Reason → Type 0
FindsPath state volume folder path last result = MatchResult result (λ number. LeadsTo state volume folder path last (Ok number))
    (λ reason. (reason ≡ NoMemory) ⊎ ((fault : Fault) × LeadsTo state volume folder path last (Err fault) × (reason ≡ path_reason_of fault)))

abbrev pub with_reason : {A : Type 0} → Result A Fault → Result A Reason
with_reason (Ok answer) = Ok answer
with_reason (Err fault) = Err (reason_of fault 0)

abbrev pub number_seen : StoreState → Volume → ℕ → List ℕ → Result ℕ Reason
number_seen state volume folder name = with_reason (lookup_of (readable state volume.tree.fs.number) volume.tree.top folder name)

abbrev pub node_of : ℕ → Found → Node
node_of number found = record {
  number = number;
  kind = found.kind;
  permissions = found.fields.mode % 4096;
  links = found.fields.links;
  uid = found.fields.uid;
  gid = found.fields.gid;
  size = found.fields.size;
  modified = found.fields.mtime;
  changed = found.fields.ctime;
}

abbrev pub node_answer : ℕ → Result Found Fault → Result Node Reason
node_answer number (Ok found) = Ok (node_of number found)
node_answer number (Err fault) = Err (reason_of fault 0)

abbrev pub node_seen : StoreState → Volume → ℕ → Result Node Reason
node_seen state volume number = node_answer number (stat_of (readable state volume.tree.fs.number) volume.tree.top volume.memory number)
