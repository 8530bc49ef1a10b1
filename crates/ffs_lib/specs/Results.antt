-- What a call leaves of files and directories, in the newest bytes before it and after it.
--     SameContents, SameUse      the entries and the bytes of an inode are as before; the inode in use with a number is, with all it has
--     SameInode, SameOrNew       and the 64 bytes at its place, in use or not; or it is free in a new block of inodes, that of another one
--     OthersSame, OnlyChanges    so are all inodes but those with two numbers; but that with one
--     new_inode                  an inode with one link, size 0 and no block
--     IsPlaced, IsLowestNumber   an entry stands where it should; an inode is the lowest free one
--     HasMore, MadeEntry         a directory has one entry more; it names a new inode
--     byte_written               the bytes of a file after some are written
--     SameMarks                  an inode has its mode and its links
--     WroteBytes                 some bytes are written, and its size is as before
--     IsAs, AsBefore             an inode is as before but for its links
--     IsLinked, TookLink         it is, with so many links; it lost one, or is free
--     IsExtended, MovedInodes    a directory's pointers and size, where it may have a block more; the inodes where an entry goes to another directory, or
--                                gets another name, or where that is refused
use Rattle.std.specs.Prelude.{◌≡◌, ◌≢◌, ℕ, ◌+◌, ◌-◌, ◌*◌, ◌/◌, ◌<◌, ◌≤◌, ◌⊎◌, ◌&&◌, List, ◌∷◌, ◌++◌, length, nat_le, nat_lt, get_or, replicate, slice_set, Ok}
use Rattle.std.specs.Prelude.{Err, false, if◌then◌else◌, Some}
use Rattle.std.specs.List.{list_any}
use Rattle.std.specs.Int.{w16, to_le_bytes}
use Rattle.xn_model.specs.Root.{word_at}
use Rattle.ffs_model.specs.Library.{inode_blocks, inode_links, inode_mode}
use Rattle.ffs_lookup.specs.declared.fault.FfsFault.TheVariants.{NoEntry}
use Rattle.ffs_lookup.specs.declared.places.Slot.{Slot}
use Rattle.ffs_lookup.specs.declared.places.Room.TheVariants.{Entry, Pointer}
use Rattle.ffs_format.specs.Fields.{direct_in, fields_of}
use Rattle.ffs_lookup.specs.FileValues.{place_in}
use Rattle.ffs_lookup.specs.Newest.{byte_of, directory_in, file_in, has_room, inode_in, is_at, listing, most_bytes, number_in, room_in, root_in}

-- Inodes that stay

abbrev pub SameContents : (ℕ → List ℕ) → (ℕ → List ℕ) → List ℕ → Type 0
SameContents old new inode = (listing new inode ≡ listing old inode) × ((at : ℕ) → at < most_bytes → byte_of new inode at ≡ byte_of old inode at)

abbrev pub SameUse : (ℕ → List ℕ) → (ℕ → List ℕ) → ℕ → ℕ → Type 0
SameUse old new fs n = (inode_in new fs n ≡ inode_in old fs n) × ((inode : List ℕ) → Ok inode ≡ inode_in old fs n → SameContents old new inode)

abbrev pub SamePlace : (ℕ → List ℕ) → (ℕ → List ℕ) → ℕ → ℕ → Type 0
SamePlace old new fs n = n ≢ 0 → n ≤ 128 → place_in new fs n ≡ place_in old fs n

abbrev pub SameInode : (ℕ → List ℕ) → (ℕ → List ℕ) → ℕ → ℕ → Type 0
SameInode old new fs n =
    (inode_in new fs n ≡ inode_in old fs n) × ((inode : List ℕ) → Ok inode ≡ inode_in old fs n → SameContents old new inode) × SamePlace old new fs n

-- an inode is free in the block of inodes of another one, which is new
pub record IsNewPlace (old new : ℕ → List ℕ) (fs n x : ℕ) : Type 0 where
  pub together : (x - 1) / 8 ≡ (n - 1) / 8
  pub absent : place_in old fs x ≡ Err NoEntry
  pub free : place_in new fs x ≡ Ok (replicate 64 0)

abbrev pub SameOrNew : (ℕ → List ℕ) → (ℕ → List ℕ) → ℕ → ℕ → ℕ → Type 0
SameOrNew old new fs n x =
    (inode_in new fs x ≡ inode_in old fs x) × ((inode : List ℕ) → Ok inode ≡ inode_in old fs x → SameContents old new inode)
    × (x ≢ 0 → x ≤ 128 → (place_in new fs x ≡ place_in old fs x) ⊎ IsNewPlace old new fs n x)

abbrev pub OthersSame : (ℕ → List ℕ) → (ℕ → List ℕ) → ℕ → ℕ → ℕ → Type 0
OthersSame old new fs n m = (d : ℕ) → d ≢ n → d ≢ m → SameInode old new fs d

abbrev pub OnlyChanges : (ℕ → List ℕ) → (ℕ → List ℕ) → ℕ → ℕ → Type 0
OnlyChanges old new fs n = (d : ℕ) → d ≢ n → SameInode old new fs d

-- Inodes and entries that are made

-- its mode and its one link, then zeros
abbrev pub new_inode : ℕ → List ℕ
new_inode mode = to_le_bytes w16 mode ++ to_le_bytes w16 1 ++ replicate 60 0

-- An entry stands at the first place without one in the first block that has one, and the inode has its blocks and its size; or else it stands
-- in a new block at the first empty pointer, and the size is 512 times the blocks.
abbrev pub IsPlaced : (ℕ → List ℕ) → List ℕ → List ℕ → Slot → Type 0
IsPlaced old inode after entry =
    ((Some (Entry entry.block entry.place) ≡ room_in old inode) × ((fields_of after).direct ≡ (fields_of inode).direct) × (word_at after 4 ≡ word_at inode 4))
    ⊎ ((index : ℕ) × (Some (Pointer index) ≡ room_in old inode) × (entry.place ≡ 0)
    × ((fields_of after).direct ≡ slice_set (fields_of inode).direct index entry.block) × (word_at after 4 ≡ 512 * length (inode_blocks after)))

-- The directory with a number, whose inode was this one, has its old entries in their order and one more, at a place where none stood. It has
-- as many links.
pub record HasMore (old new : ℕ → List ℕ) (fs d : ℕ) (inode name : List ℕ) (n : ℕ) : Type 0 where
  pub after : List ℕ
  pub directory : Ok after ≡ directory_in new fs d
  pub links : inode_links after ≡ inode_links inode
  pub entry : Slot
  pub inode_named : entry.inode ≡ n
  pub front : List (Slot × List ℕ)
  pub back : List (Slot × List ℕ)
  pub was : listing old inode ≡ front ++ back
  pub is : listing new after ≡ front ++ (entry, name) ∷ back
  pub alone : list_any (λ p. is_at entry p.0) (listing old inode) ≡ false
  pub placed : IsPlaced old inode after entry

-- the number of the lowest free inode
abbrev pub IsLowestNumber : (ℕ → List ℕ) → ℕ → ℕ → Type 0
IsLowestNumber content fs n = (root : ℕ) → Ok root ≡ root_in content fs → Some n ≡ number_in content root

-- A free inode came into use, and the directory with number d names it. All others are as before, or free in a new block of inodes.
pub record MadeEntry (old new : ℕ → List ℕ) (fs d : ℕ) (name : List ℕ) (mode n : ℕ) : Type 0 where
  pub free : inode_in old fs n ≡ Err NoEntry
  pub made : inode_in new fs n ≡ Ok (new_inode mode)
  pub entry : (inode : List ℕ) → Ok inode ≡ directory_in old fs d → HasMore old new fs d inode name n
  pub others : (x : ℕ) → x ≢ d → x ≢ n → SameOrNew old new fs n x

-- Bytes that are written

-- the data from an offset on, and the old bytes elsewhere
abbrev pub byte_written : (ℕ → ℕ) → ℕ → List ℕ → ℕ → ℕ
byte_written old offset bytes at = if nat_le offset at && nat_lt at (offset + length bytes) then get_or bytes (at - offset) 0 else old at

-- an inode has its mode and its links
abbrev pub SameMarks : List ℕ → List ℕ → Type 0
SameMarks inode after = (inode_mode after ≡ inode_mode inode) × (inode_links after ≡ inode_links inode)

-- bytes are written into a file, and its size is as before
pub record WroteBytes (old new : ℕ → List ℕ) (fs n : ℕ) (inode : List ℕ) (start : ℕ) (bytes : List ℕ) : Type 0 where
  pub after : List ℕ
  pub file : Ok after ≡ file_in new fs n
  pub size : word_at after 4 ≡ word_at inode 4
  pub marks : SameMarks inode after
  pub each : (at : ℕ) → at < most_bytes → byte_of new after at ≡ byte_written (byte_of old inode) start bytes at

-- Inodes that are as before but for their links

pub record IsAs (old new : ℕ → List ℕ) (fs d : ℕ) (inode : List ℕ) : Type 0 where
  pub after : List ℕ
  pub found : Ok after ≡ inode_in new fs d
  pub mode : inode_mode after ≡ inode_mode inode
  pub size : word_at after 4 ≡ word_at inode 4
  pub entries : listing new after ≡ listing old inode
  pub each : (at : ℕ) → at < most_bytes → byte_of new after at ≡ byte_of old inode at
  pub direct : (fields_of after).direct ≡ (fields_of inode).direct
  pub room : has_room new after ≡ has_room old inode

abbrev pub AsBefore : (ℕ → List ℕ) → (ℕ → List ℕ) → ℕ → ℕ → Type 0
AsBefore old new fs d = (inode : List ℕ) → Ok inode ≡ inode_in old fs d → IsAs old new fs d inode

-- as before, with so many links
abbrev pub IsLinked : (ℕ → List ℕ) → (ℕ → List ℕ) → ℕ → ℕ → List ℕ → ℕ → Type 0
IsLinked old new fs d inode links = (is : IsAs old new fs d inode) × (inode_links is.after ≡ links)

-- The inode with number n lost a link: where it had more it is as before but for that, and else it is free, which is 64 zeros.
pub record TookLink (old new : ℕ → List ℕ) (fs n : ℕ) (inode : List ℕ) : Type 0 where
  pub kept : 1 < inode_links inode → IsLinked old new fs n inode (inode_links inode - 1)
  pub zeroed : inode_links inode ≤ 1 → place_in new fs n ≡ Ok (replicate 64 0)

-- An entry that is moved

-- pointers that lead to a block stay, and the size, where there are no others; else this is 512 times the blocks
abbrev pub IsExtended : List ℕ → List ℕ → Type 0
IsExtended inode after =
    ((i : ℕ) → i < 12 → direct_in inode i ≢ 0 → direct_in after i ≡ direct_in inode i)
    × ((((fields_of after).direct ≡ (fields_of inode).direct) × (word_at after 4 ≡ word_at inode 4))
    ⊎ (((fields_of after).direct ≢ (fields_of inode).direct) × (word_at after 4 ≡ 512 * length (inode_blocks after))))

-- An entry went from the directory with a number to that with another, which may be the same. All inodes but those two and the one that it names are as
-- before; that one is too, but for its links, where it is neither of the two. The first keeps its 64 bytes where it is another than both. A directory whose
-- entries are as before is so in all, but for the links of that one.
pub record MovedInodes (old new : ℕ → List ℕ) (fs d other n : ℕ) : Type 0 where
  pub others : (x : ℕ) → x ≢ d → x ≢ other → AsBefore old new fs x
  pub same : (x : ℕ) → x ≢ d → x ≢ other → x ≢ n → SameInode old new fs x
  pub kept : d ≢ other → d ≢ n → inode_in new fs d ≡ inode_in old fs d
  pub sized : (inode after : List ℕ) → Ok inode ≡ directory_in old fs other → Ok after ≡ directory_in new fs other → IsExtended inode after
  pub listed : (x : ℕ) (inode after : List ℕ) → Ok inode ≡ directory_in old fs x → Ok after ≡ directory_in new fs x → listing new after ≡ listing old inode →
      AsBefore old new fs x × (x ≢ n → SameInode old new fs x)
