-- The fields of an inode before its pointers, and changes of them. A mode has the kind in its four highest bits, and the permissions
-- in the twelve below; see Inodes.
--     fields_of m             those that the bytes of an inode block say
--     field_bytes fields      the first 48 bytes of an inode block
--     AreInRange fields       each field is as wide as its bytes
--     changed fields change   with one of them set
--     changes_patch changes   the patch that makes some changes of fields that stand side by side
use Rattle.std.specs.Prelude.{ℕ, ℤ, ◌+◌, ◌^◌, ◌<◌, ◌==◌, Bool, true, ◌&&◌, List, [], ◌∷◌, ◌++◌, flat_map, slice_index, FitsSigned}
use Rattle.std.specs.Int.{Width, w16, w32, w64, byte_len, cast_unsigned, to_le_bytes}
use Rattle.xn_model.specs.Calls.{Patch}
use Rattle.xn_model.specs.Root.{word_at}
use Rattle.treefs_format.specs.Numbers.{number_at, signed_at}
pub use Rattle.treefs_format.specs.declared.fields.Fields.{Fields}
pub use Rattle.treefs_format.specs.declared.fields.Change.{Change}
use Rattle.treefs_format.specs.declared.fields.Change.TheVariants.{Mode, Links, Uid, Gid, Size, Mtime, Ctime, Parent}

abbrev pub fields_of : List ℕ → Fields
fields_of m = record {
  leaf_type = slice_index m 0;
  node_type = slice_index m 1;
  mode = number_at w16 m 2;
  links = word_at m 4;
  uid = word_at m 8;
  gid = word_at m 12;
  size = number_at w64 m 16;
  mtime = signed_at m 24;
  ctime = signed_at m 32;
  parent = word_at m 40;
  generation = word_at m 44;
}

abbrev pub time_bytes : ℤ → List ℕ
time_bytes time = to_le_bytes w64 (cast_unsigned w64 time)

abbrev pub field_bytes : Fields → List ℕ
field_bytes f =
    (f.leaf_type ∷ f.node_type ∷ [])
    ++ (to_le_bytes w16 f.mode
    ++ (to_le_bytes w32 f.links
    ++ (to_le_bytes w32 f.uid
    ++ (to_le_bytes w32 f.gid
    ++ (to_le_bytes w64 f.size
    ++ (time_bytes f.mtime
    ++ (time_bytes f.ctime
    ++ (to_le_bytes w32 f.parent
    ++ to_le_bytes w32 f.generation))))))))

pub record AreInRange (f : Fields) : Type 0 where
  pub leaf_type : f.leaf_type < 2 ^ 8
  pub node_type : f.node_type < 2 ^ 8
  pub mode : f.mode < 2 ^ 16
  pub links : f.links < 2 ^ 32
  pub uid : f.uid < 2 ^ 32
  pub gid : f.gid < 2 ^ 32
  pub size : f.size < 2 ^ 64
  pub mtime : FitsSigned w64 f.mtime
  pub ctime : FitsSigned w64 f.ctime
  pub parent : f.parent < 2 ^ 32
  pub generation : f.generation < 2 ^ 32

-- Changes

-- the byte of an inode block from which on the field stands
abbrev pub change_offset : Change → ℕ
change_offset (Mode mode) = 2
change_offset (Links links) = 4
change_offset (Uid uid) = 8
change_offset (Gid gid) = 12
change_offset (Size size) = 16
change_offset (Mtime time) = 24
change_offset (Ctime time) = 32
change_offset (Parent parent) = 40

abbrev pub change_bytes : Change → List ℕ
change_bytes (Mode mode) = to_le_bytes w16 mode
change_bytes (Links links) = to_le_bytes w32 links
change_bytes (Uid uid) = to_le_bytes w32 uid
change_bytes (Gid gid) = to_le_bytes w32 gid
change_bytes (Size size) = to_le_bytes w64 size
change_bytes (Mtime time) = time_bytes time
change_bytes (Ctime time) = time_bytes time
change_bytes (Parent parent) = to_le_bytes w32 parent

abbrev pub change_width : Change → Width
change_width (Mode mode) = w16
change_width (Links links) = w32
change_width (Uid uid) = w32
change_width (Gid gid) = w32
change_width (Size size) = w64
change_width (Mtime time) = w64
change_width (Ctime time) = w64
change_width (Parent parent) = w32

-- the value is as wide as its bytes
abbrev pub IsInRange : Change → Type 0
IsInRange (Mode mode) = mode < 2 ^ 16
IsInRange (Links links) = links < 2 ^ 32
IsInRange (Uid uid) = uid < 2 ^ 32
IsInRange (Gid gid) = gid < 2 ^ 32
IsInRange (Size size) = size < 2 ^ 64
IsInRange (Mtime time) = FitsSigned w64 time
IsInRange (Ctime time) = FitsSigned w64 time
IsInRange (Parent parent) = parent < 2 ^ 32

abbrev pub changed : Fields → Change → Fields
changed fields (Mode mode) = record fields { mode = mode }
changed fields (Links links) = record fields { links = links }
changed fields (Uid uid) = record fields { uid = uid }
changed fields (Gid gid) = record fields { gid = gid }
changed fields (Size size) = record fields { size = size }
changed fields (Mtime time) = record fields { mtime = time }
changed fields (Ctime time) = record fields { ctime = time }
changed fields (Parent parent) = record fields { parent = parent }

-- each field stands behind the one before, the first one from a byte on
abbrev pub stand_from : ℕ → List Change → Bool
stand_from at [] = true
stand_from at (change ∷ changes) = (change_offset change == at) && stand_from (at + byte_len (change_width change)) changes

-- some changes, of fields that stand side by side
abbrev pub are_adjoining : List Change → Bool
are_adjoining [] = true
are_adjoining (change ∷ changes) = stand_from (change_offset change) (change ∷ changes)

abbrev pub first_offset : List Change → ℕ
first_offset [] = 0
first_offset (change ∷ changes) = change_offset change

abbrev pub changes_patch : List Change → Patch
changes_patch changes = record { offset = first_offset changes; bytes = flat_map change_bytes changes }
