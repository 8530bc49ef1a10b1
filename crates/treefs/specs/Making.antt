-- What mkfs does: a block becomes the root, inode 0, if there is none yet, and inode 1, the top directory, is attached to it.
--     root_bytes, first_fields    a new inode 0; what inode 1 says
--     root_planned       the root that is there, and has no inode 1; none where there is no root
--     HasRoot            there is a root then
--     first_plan         inode 1 is attached to it
--     MkfsDoes           what mkfs does
use Rattle.std.specs.Prelude.{◌≡◌, ◌⊎◌, ⊤, ℕ, ℤ, pos, ◌==◌, false, List, [], ◌∷◌, Option, None, Some, Result, Ok, Err, MatchResult, if◌then◌else◌}
use Rattle.xn_model.specs.Calls.{kind_of, make_root_of, root_of}
use Rattle.xn_model.specs.Lives.{StoreState}
use Rattle.xn_model.specs.Results.{Gives}
use Rattle.xn_model.specs.Types.{Types}
use Rattle.store_types.specs.declared.refusal.Refusal.{Refusal}
use Rattle.store_types.specs.declared.refusal.Refusal.TheVariants.{RootTaken}
use Rattle.treefs_format.specs.Inodes.{inode_bytes, mode_of}
use Rattle.treefs_format.specs.Roots.{root_content}
use Rattle.treefs_format.specs.declared.fields.Fields.{Fields}
use Rattle.treefs_format.specs.declared.kind.Kind.TheVariants as kind
use Rattle.treefs_model.specs.Acts.{attach_act}
use Rattle.treefs_model.specs.Reading.{pointed}
use Rattle.treefs_model.specs.declared.fault.Fault.{Fault}
use Rattle.treefs_model.specs.declared.fault.Fault.TheVariants.{Exists, Kernel}
use Rattle.treefs_lookup.specs.Readable.{readable}
use Rattle.treefs_edits.specs.Memories.{Memory}
use Rattle.treefs_edits.specs.Plans.{Does, Plan, forgotten}
use Rattle.treefs_edits.specs.declared.start.Start.{Start}
use Rattle.treefs_edits.specs.declared.tree.Tree.{Tree}
use Rattle.edit_list.specs.declared.fs.Fs.{Fs}
use Rattle.treefs.specs.Committing.{BeginsOne, done_of}
use Rattle.treefs.specs.declared.block_types.BlockTypes.{BlockTypes}
use Rattle.treefs.specs.declared.volume.Volume.{Volume}

-- The two inodes

-- no mode, no links, no times
abbrev pub root_fields : BlockTypes → Fields
root_fields types = record {
  leaf_type = types.inode;
  node_type = types.node;
  mode = 0;
  links = 0;
  uid = 0;
  gid = 0;
  size = 0;
  mtime = pos 0;
  ctime = pos 0;
  parent = 0;
  generation = 0;
}

-- open, with the key of the names' hash
abbrev pub root_bytes : BlockTypes → List ℕ → List ℕ
root_bytes types key = inode_bytes (root_fields types) (root_content key false)

-- a directory that stands in itself; its permissions are 0755
abbrev pub first_fields : ℕ → ℤ → Fields
first_fields node_type time = record {
  leaf_type = 2;
  node_type = node_type;
  mode = mode_of kind.Directory 493;
  links = 1;
  uid = 0;
  gid = 0;
  size = 0;
  mtime = time;
  ctime = time;
  parent = 1;
  generation = 0;
}

-- The root

abbrev pub root_without_first : (ℕ → List ℕ) → ℕ → Result (Option ℕ) Fault
root_without_first content top = if pointed content top 48 == 0 then Ok (Some top) else Err Exists

abbrev pub root_of_type : (ℕ → List ℕ) → ℕ → ℕ → Result ℕ Refusal → Result (Option ℕ) Fault
root_of_type content inode_type top (Ok ty) = if ty == inode_type then root_without_first content top else Err (Kernel RootTaken)
root_of_type content inode_type top (Err reason) = Err (Kernel reason)

abbrev pub root_in : StoreState → ℕ → ℕ → Option ℕ → Result (Option ℕ) Fault
root_in state fs inode_type None = Ok None
root_in state fs inode_type (Some top) = root_of_type (readable state fs) inode_type top (kind_of state fs top)

abbrev pub root_planned : StoreState → ℕ → ℕ → Result (Option ℕ) Fault
root_planned state fs inode_type = root_in state fs inode_type (root_of state fs)

-- a fresh block becomes the root; where that is refused it is forgotten
abbrev pub SetsRoot : Types → ℕ → ℕ → StoreState → StoreState → Result ℕ Fault → Type 0
SetsRoot T fs block old new result = MatchResult result
    (λ top. (top ≡ block) × ((entry : ℕ) × Gives (make_root_of old fs block) old new (Ok entry)))
    (λ fault. (reason : Refusal) × Gives (make_root_of old fs block) old old (Err reason) × (fault ≡ Kernel reason) × (new ≡ forgotten T fs (block ∷ []) old))

abbrev pub MakesRoot : Types → ℕ → Start → StoreState → StoreState → Result ℕ Fault → Type 0
MakesRoot T fs start old new result =
    MatchResult result (λ top. ⊥) (λ fault. BeginsOne T fs start old new (Err fault))
    ⊎ ((block : ℕ) × (middle : StoreState) × BeginsOne T fs start old middle (Ok block) × SetsRoot T fs block middle new result)

-- one that is there is kept
abbrev pub HasRoot : Types → ℕ → Start → Result (Option ℕ) Fault → StoreState → StoreState → Result ℕ Fault → Type 0
HasRoot T fs start (Ok (Some top)) old new result = (result ≡ Ok top) × (new ≡ old)
HasRoot T fs start (Ok None) old new result = MakesRoot T fs start old new result
HasRoot T fs start (Err fault) old new result = (result ≡ Err fault) × (new ≡ old)

-- The call

abbrev pub first_plan : Tree → ℤ → Plan
first_plan tree time = record {
  starts = record { ty = tree.inode_type; bytes = inode_bytes (first_fields tree.node_type time) [] } ∷ [];
  acts = λ begun. attach_act tree.top 48 tree.inode_type begun None ∷ [];
}

abbrev pub tree_at : Fs → BlockTypes → ℕ → Tree
tree_at fs types top = record { fs = fs; top = top; node_type = types.node; inode_type = types.inode }

-- nothing is remembered yet
abbrev pub fresh_memory : ℤ → Memory
fresh_memory time = record { clock = time; touched = []; last_dir = 0; last_link = 0; hint = 1; orphans = [] }

abbrev pub fresh_volume : Tree → ℤ → Volume
fresh_volume tree time = record { tree = tree; memory = fresh_memory time }

abbrev pub FirstDoes : Types → Tree → ℤ → StoreState → StoreState → Result Volume Fault → Type 0
FirstDoes T tree time old new result = Does T tree.fs.number (first_plan tree time) old new (done_of result)
    × MatchResult result (λ volume. volume ≡ fresh_volume tree time) (λ fault. ⊤)

abbrev pub MkfsDoes : Types → StoreState → StoreState → Fs → BlockTypes → List ℕ → ℤ → Result Volume Fault → Type 0
MkfsDoes T old new fs types key time result =
    let start : Start = record { ty = types.inode; bytes = root_bytes types key } in
    let planned = root_planned old fs.number types.inode in
    MatchResult result (λ volume. ⊥) (λ fault. HasRoot T fs.number start planned old new (Err fault))
    ⊎ ((top : ℕ) × (middle : StoreState) × HasRoot T fs.number start planned old middle (Ok top) × FirstDoes T (tree_at fs types top) time middle new result)
