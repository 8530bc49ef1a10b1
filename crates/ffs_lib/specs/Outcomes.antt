-- What the edits of a volume leave, each for every array of numbers for which a volume's rules held before.
--     Keeps T fs old new      a volume's rules hold on
--     IsMade, ..              and what may come next
use Rattle.std.specs.Prelude.{◌≡◌, ◌≢◌, ℕ, ◌-◌, ◌*◌, ◌/◌, ◌%◌, ◌<◌, ◌≤◌, List, [], Option, Ok, length, max, slice_set, true}
use Rattle.std.specs.Prelude.{IsTrue}
use Rattle.xn_model.specs.Types.{Types}
use Rattle.xn_model.specs.Root.{word_at}
use Rattle.xn_model.specs.Lives.{StoreState}
use Rattle.xn_model.specs.Calls.{was_given}
use Rattle.ffs_model.specs.Cuts.{Under, latest}
use Rattle.ffs_model.specs.Names.{IsInodes}
use Rattle.ffs_model.specs.Volumes.{VolumeKeeps, CanName, with_edit, without_edit}
use Rattle.ffs_model.specs.Library.{inode_at, inode_blocks, inode_links, library_layout, IsLibrary, zero_block}
use Rattle.xn_model.specs.Rules.{IsConsistent}
use Rattle.ffs_format.specs.Fields.{fields_of}
use Rattle.ffs_lookup.specs.FileValues.{place_in}
use Rattle.ffs_lookup.specs.Newest.{byte_of, directory_in, file_block, file_in, has_empty_pointer, inode_block_in, most_bytes, root_in}
use Rattle.ffs_lib.specs.Results.{SameInode, SameMarks}

abbrev pub Keeps : Types → ℕ → StoreState → StoreState → Type 0
Keeps T fs old new = IsLibrary T → (array : ℕ → Option ℕ) → VolumeKeeps T library_layout fs array old → VolumeKeeps T library_layout fs array new

-- an inode came into use by an edit, after which it may be named; the number that was recorded for its block may be forgotten
pub record IsMade (T : Types) (fs : ℕ) (array : ℕ → Option ℕ) (n entry : ℕ) (new : StoreState) : Type 0 where
  pub keeps : VolumeKeeps T library_layout fs array new
  pub forgets : VolumeKeeps T library_layout fs (without_edit array (library_layout.home n).0) new
  pub can : CanName library_layout new.lives fs n entry

-- a block of inodes was attached by an edit, whose number is recorded
pub record IsAdded (T : Types) (fs : ℕ) (array : ℕ → Option ℕ) (index block entry : ℕ) (new : StoreState) : Type 0 where
  pub keeps : VolumeKeeps T library_layout fs (with_edit array index entry) new
  pub inodes : IsInodes library_layout (latest new.lives) fs index block
  pub empty : latest new.lives block ≡ zero_block

-- What stands in the newest bytes

-- the directory's inode points to a block more, and no block changes but its own
pub record IsGrown (old new : ℕ → List ℕ) (fs d : ℕ) (inode : List ℕ) (index block : ℕ) : Type 0 where
  pub after : List ℕ
  pub directory : Ok after ≡ directory_in new fs d
  pub links : inode_links after ≡ inode_links inode
  pub direct : (fields_of after).direct ≡ slice_set (fields_of inode).direct index block
  pub size : word_at after 4 ≡ 512 * length (inode_blocks after)
  pub bytes : (c : ℕ) → (IsInodes library_layout old fs ((d - 1) / 8) c → ⊥) → new c ≡ old c
  pub others : (e : ℕ) → e ≢ d → SameInode old new fs e

-- What stands in the bytes of a file
--     HasBlock     it has a new block, where it had none
--     IsRaised     its size is raised

-- one block that is no data changed
pub record HasBlock (T : Types) (old new : ℕ → List ℕ) (fs n : ℕ) (inode : List ℕ) (index block : ℕ) : Type 0 where
  pub after : List ℕ
  pub file : Ok after ≡ file_in new fs n
  pub size : word_at after 4 ≡ word_at inode 4
  pub marks : SameMarks inode after
  pub here : file_block new after index ≡ block
  pub elsewhere : (i : ℕ) → i < 140 → i ≢ index → file_block new after i ≡ file_block old inode i
  pub home : ℕ
  pub type_of : ℕ
  pub reached : Under T old fs home type_of
  pub no_data : type_of ≢ 2
  pub bytes : (c : ℕ) → c ≢ home → new c ≡ old c
  pub others : (d : ℕ) → d ≢ n → SameInode old new fs d

pub record IsRaised (old new : ℕ → List ℕ) (fs n : ℕ) (inode : List ℕ) (size : ℕ) : Type 0 where
  pub after : List ℕ
  pub file : Ok after ≡ file_in new fs n
  pub sized : word_at after 4 ≡ max (word_at inode 4) size
  pub marks : SameMarks inode after
  pub each : (at : ℕ) → at < most_bytes → byte_of new after at ≡ byte_of old inode at

-- What stands after the edits that make a volume
--     FirstInodes       these bytes are the first block of inodes, and the inodes of others are as before

pub record FirstInodes (old new : ℕ → List ℕ) (fs : ℕ) (bytes : List ℕ) : Type 0 where
  pub first : (n : ℕ) → n ≤ 128 → (n - 1) / 8 ≡ 0 → place_in new fs n ≡ Ok (inode_at bytes ((n - 1) % 8))
  pub rest : (n : ℕ) → n ≤ 128 → (n - 1) / 8 ≢ 0 → place_in new fs n ≡ place_in old fs n

-- Which edits are refused for want of something alone
--     CanEdit     a call may propose an edit that comes after this one

pub record CanEdit (T : Types) (state : StoreState) (after : Option ℕ) : Type 0 where
  pub library : IsLibrary T
  pub consistent : IsConsistent T state
  pub given : IsTrue (was_given state after)

-- What an edit wants of the newest bytes, and leaves for the next
--     HasFreePointer    the root block has an empty pointer, and one to a block of inodes at index 0
--     HasNoData         an inode's block of pointers, if it has one, owns nothing

pub record HasFreePointer (content : ℕ → List ℕ) (fs : ℕ) : Type 0 where
  pub first : ℕ
  pub inodes : Ok first ≡ inode_block_in content fs 0
  pub root : ℕ
  pub is_root : Ok root ≡ root_in content fs
  pub empty : has_empty_pointer content root ≡ true

abbrev pub HasNoData : Types → (ℕ → List ℕ) → List ℕ → Type 0
HasNoData T content inode = word_at inode 56 ≢ 0 → T.owned 5 (content (word_at inode 56)) ≡ []
