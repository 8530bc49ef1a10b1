-- What the calls do that make an inode.
--     new_fields            what a new inode says before its pointers
--     NewDoes               a new inode gets its first name
--     BeginDoes             an inode is begun
--     CreateDoes, SymlinkDoes, MkdirDoes     what create, symlink and mkdir do
use Rattle.std.specs.Prelude.{◌≡◌, ⊤, ℕ, length, List, [], Result, Ok, Err, MatchResult}
use Rattle.xn_model.specs.Types.{Types}
use Rattle.xn_model.specs.Lives.{StoreState}
use Rattle.xn_model.specs.PendingIn.{newest_entry_of}
use Rattle.treefs_format.specs.Inodes.{inode_bytes, mode_of}
use Rattle.treefs_format.specs.declared.fields.Fields.{Fields}
use Rattle.treefs_format.specs.declared.kind.Kind.{Kind}
use Rattle.treefs_format.specs.declared.kind.Kind.TheVariants as kind
use Rattle.treefs_model.specs.declared.fault.Fault.{Fault}
use Rattle.treefs_edits.specs.Memories.{Memory}
use Rattle.treefs_edits.specs.declared.tree.Tree.{Tree}
use Rattle.treefs_edits.specs.Plans.{DoesPlanned}
use Rattle.treefs_name_plans.specs.NewPlans.{IsNewPlanned, new_plan}
use Rattle.treefs_name_plans.specs.declared.commit_plan.CommitPlan.{CommitPlan}
use Rattle.treefs_name_plans.specs.declared.naming.Naming.{Naming}
use Rattle.treefs_name_plans.specs.declared.naming.Naming.TheVariants.{Added, Replaced}
use Rattle.treefs.specs.Committing.{BeginsInRoom, committed_memory, done_of}
use Rattle.treefs.specs.Linking.{entry_or, record_entry}
use Rattle.treefs.specs.Unlinking.{as_plan}
use Rattle.treefs.specs.declared.attributes.Attributes.{Attributes}
use Rattle.treefs.specs.declared.volume.Volume.{Volume}

-- The inode

-- with one link; parent: of a directory the one that it stands in, else 0
abbrev pub new_fields : Tree → Memory → Kind → Attributes → ℕ → ℕ → Fields
new_fields tree memory kind attributes parent size = record {
  leaf_type = 2;
  node_type = tree.node_type;
  mode = mode_of kind attributes.permissions;
  links = 1;
  uid = attributes.uid;
  gid = attributes.gid;
  size = size;
  mtime = memory.clock;
  ctime = memory.clock;
  parent = parent;
  generation = attributes.generation;
}

-- a file or a symbolic link with these first bytes, which no name leads to yet
abbrev pub BeginDoes : Types → StoreState → StoreState → Volume → Kind → Attributes → List ℕ → Result ℕ Fault → Type 0
BeginDoes T state state' volume of attributes head result =
    let inode = inode_bytes (new_fields volume.tree volume.memory of attributes 0 (length head)) head in
    BeginsInRoom T volume.tree.fs.number (length volume.memory.touched) (record { ty = volume.tree.inode_type; bytes = inode }) state state' result

-- Its name

-- where it was not made, all is as it was
abbrev pub new_volume : Volume → ℕ → Result CommitPlan Fault → Volume
new_volume volume directory (Ok plan) = record volume { memory = committed_memory volume.memory directory plan }
new_volume volume directory (Err fault) = volume

-- made: what was carried out
abbrev pub NewDoes : Types → StoreState → StoreState → Volume → Volume → ℕ → List ℕ → List ℕ → Result CommitPlan Fault → Type 0
NewDoes T state state' volume volume' directory name inode made =
    (planned : Result CommitPlan Fault) × IsNewPlanned state volume.tree volume.memory directory name planned
    × DoesPlanned T volume.tree.fs.number (as_plan (new_plan name inode) planned) state state' (done_of made)
    × MatchResult made (λ plan. planned ≡ Ok plan) (λ fault. ⊤)
    × (volume' ≡ new_volume volume directory made)

abbrev pub number_of : Result CommitPlan Fault → Result ℕ Fault
number_of (Ok plan) = Ok plan.number
number_of (Err fault) = Err fault

abbrev pub CreateDoes : Types → StoreState → StoreState → Volume → Volume → ℕ → List ℕ → Attributes → Result ℕ Fault → Type 0
CreateDoes T state state' volume volume' directory name attributes result =
    let inode = inode_bytes (new_fields volume.tree volume.memory kind.File attributes 0 0) [] in
    (made : Result CommitPlan Fault) × NewDoes T state state' volume volume' directory name inode made × (result ≡ number_of made)

-- the target stands in the inode block
abbrev pub SymlinkDoes : Types → StoreState → StoreState → Volume → Volume → ℕ → List ℕ → Attributes → List ℕ → Result ℕ Fault → Type 0
SymlinkDoes T state state' volume volume' directory name attributes target result =
    let inode = inode_bytes (new_fields volume.tree volume.memory kind.SymbolicLink attributes 0 (length target)) target in
    (made : Result CommitPlan Fault) × NewDoes T state state' volume volume' directory name inode made × (result ≡ number_of made)

-- the newest entry in the block of the record; a word where nothing is pending there
abbrev pub naming_entry : StoreState → ℕ → ℕ → Naming → ℕ → ℕ
naming_entry state fs directory (Added addition) word = record_entry state fs directory addition word
naming_entry state fs directory (Replaced end) word = entry_or (newest_entry_of state end.block) word

-- the record is the last directory's
abbrev pub moved_volume : StoreState → Volume → Result CommitPlan Fault → Volume
moved_volume state volume (Ok plan) =
    record volume {
      memory = record volume.memory {
        last_dir = naming_entry state volume.tree.fs.number plan.directory plan.naming volume.memory.last_dir;
      };
    }
moved_volume state volume (Err fault) = volume

abbrev pub MkdirDoes : Types → StoreState → StoreState → Volume → Volume → ℕ → List ℕ → Attributes → Result ℕ Fault → Type 0
MkdirDoes T state state' volume volume' directory name attributes result =
    let inode = inode_bytes (new_fields volume.tree volume.memory kind.Directory attributes directory 0) [] in
    (made : Result CommitPlan Fault) × (middle : Volume) × NewDoes T state state' volume middle directory name inode made
    × (volume' ≡ moved_volume state' middle made) × (result ≡ number_of made)
