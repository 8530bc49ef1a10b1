-- The blocks that a path of pointers from an inode lacks. A path is the offsets of the pointers that are missing, the first one in the block that owns it.
--     missing_path               the missing pointers of the path to a leaf
--     path_starts, path_acts     a path whose last block is a leaf of zeros: the blocks that are begun, and how each is attached to the one before
--     node_starts, node_acts     the same of a path of nodes alone
use Rattle.std.specs.Prelude.{ℕ, List, [], ◌∷◌, None, nat_lt, reverse, take, if◌then◌else◌}
use Rattle.treefs_format.specs.Nodes.{node_bytes}
use Rattle.treefs_format.specs.Paths.{leaf_count, steps}
use Rattle.treefs_model.specs.Acts.{Act, attach_act, wait_act}
use Rattle.treefs_edits.specs.declared.start.Start.{Start}

-- To a leaf

-- the type of the block to which a pointer leads, by the pointers behind that one
abbrev pub type_before : ℕ → List ℕ → ℕ
type_before node_type [] = 2
type_before node_type (offset ∷ offsets) = node_type

-- the type of the blocks to which that block points, which its first byte says; a leaf of zeros says 0
abbrev pub first_byte : ℕ → List ℕ → ℕ
first_byte node_type [] = 0
first_byte node_type (offset ∷ offsets) = type_before node_type offsets

abbrev pub path_starts : ℕ → List ℕ → List Start
path_starts node_type [] = []
path_starts node_type (offset ∷ offsets) =
    record { ty = type_before node_type offsets; bytes = node_bytes (first_byte node_type offsets) } ∷ path_starts node_type offsets

-- each new block is attached to the one before, and waits for that
abbrev pub path_acts : ℕ → ℕ → List ℕ → List ℕ → List Act
path_acts node_type owner [] begun = []
path_acts node_type owner (offset ∷ offsets) [] = []
path_acts node_type owner (offset ∷ offsets) (block ∷ begun) =
    attach_act owner offset (type_before node_type offsets) (block ∷ []) None
    ∷ wait_act block (first_byte node_type offsets ∷ []) owner
    ∷ path_acts node_type block offsets begun

-- the pointers of the path to a leaf that are missing, where so many are
abbrev pub missing_path : ℕ → ℕ → List ℕ
missing_path leaf missing = if nat_lt leaf leaf_count then reverse (take missing (steps leaf)) else []

-- Nodes alone, the last of which points to blocks of a type

-- the type of the blocks to which a new node points, by the pointers to those behind it
abbrev pub child_before : ℕ → ℕ → List ℕ → ℕ
child_before node_type last_type [] = last_type
child_before node_type last_type (offset ∷ offsets) = node_type

abbrev pub node_starts : ℕ → ℕ → List ℕ → List Start
node_starts node_type last_type [] = []
node_starts node_type last_type (offset ∷ offsets) =
    record { ty = node_type; bytes = node_bytes (child_before node_type last_type offsets) } ∷ node_starts node_type last_type offsets

-- each new node is attached to the block before, and waits for that
abbrev pub node_acts : ℕ → ℕ → ℕ → List ℕ → List ℕ → List Act
node_acts node_type last_type owner [] begun = []
node_acts node_type last_type owner (offset ∷ offsets) [] = []
node_acts node_type last_type owner (offset ∷ offsets) (block ∷ begun) =
    attach_act owner offset node_type (block ∷ []) None
    ∷ wait_act block (child_before node_type last_type offsets ∷ []) owner
    ∷ node_acts node_type last_type block offsets begun

-- the last one of some blocks, or else the block that owns the path
abbrev pub last_or_owner : ℕ → List ℕ → ℕ
last_or_owner owner [] = owner
last_or_owner owner (block ∷ blocks) = last_or_owner block blocks
