-- A call by its function of the files, and what it leaves where the store refuses one of its edits.
--     more_a_link, with_link     an inode with a link more; the files with one so
--     cut_short                  a file whose block of pointers was emptied: its bytes are 0 there
--     emptied, with_emptied      so it was for its last link; the files with one so
--     Ask, Asks                  what a call asks of the store next; the store refuses that, and nothing changes but the next number
--     Stages, IsStage            files, and what is asked there, in the order of a call; one of them
--     stages_of                  the stages of a call whose look-ups pass
--     Does                       what a call answers and leaves
--     make_stages                of `make`
--     link_stages                where a link is taken
--     removed_stages, created_stages, renamed_stages, replaced_stages    of `unlink` and `rmdir`; of `create` and `mkdir`; of `rename`; of `replace`
--     Unnames, KeptOrEmptied     what the files don't say of the inodes where a name is taken; what a refusal leaves of the inode that was named
--     Makes, OnlyMade            what the files don't say of the inodes where one is made; all but that one are as before
use Rattle.std.specs.Prelude.{◌≡◌, ◌≢◌, ℕ, ◌+◌, ◌-◌, ◌<◌, ◌⊎◌, nat_le, nat_lt, List, [], ◌∷◌, ◌++◌, length, take}
use Rattle.std.specs.Prelude.{replicate, Option, None, Some, Result, Ok, Err, true}
use Rattle.std.specs.Prelude.{MatchResult, ◌==◌, if◌then◌else◌}
use Rattle.std.specs.Option.{ok_or}
use Rattle.xn_model.specs.Types.{Types}
use Rattle.xn_model.specs.Lives.{StoreState}
use Rattle.ffs_model.specs.Library.{inode_links}
use Rattle.ffs_format.specs.Entries.{entry_of}
use Rattle.ffs_format.specs.Fields.{direct_in}
use Rattle.ffs_lookup.specs.declared.fault.FfsFault.{FfsFault}
use Rattle.ffs_lookup.specs.declared.fault.FfsFault.TheVariants.{NoEntry, TooLarge}
use Rattle.ffs_lookup.specs.Files.{Answer, Blocks, Directory, File, Files, InodeValue, both_directories, created, directory_of}
use Rattle.ffs_lookup.specs.Files.{entry_named, is_same, links_of, look_up, room}
use Rattle.ffs_lookup.specs.Files.{with_block, with_entry, with_value, without_link}
use Rattle.ffs_lookup.specs.FileValues.{files_of, place_in}
use Rattle.ffs_lookup.specs.Newest.{and_then, byte_of, directory_in, inode_in, is_short, listing, most_bytes}
use Rattle.ffs_lib.specs.Making.{StopsTop}
use Rattle.ffs_lib.specs.Results.{IsAs, IsExtended, OthersSame, SameContents, SameOrNew, new_inode}
use Rattle.ffs_lib.specs.Steps.{StopsAtHome, StopsEntering, StopsGrowing, Wants, WantsHome, WantsPointers, newest_block}
use Rattle.ffs_lib.specs.Values.{Leads}
use Rattle.ffs_lib.specs.WriteOrder.{parts_at}
use Rattle.ffs_lib.specs.Writes.{StopsPart}

abbrev pub more_a_link : InodeValue → InodeValue
more_a_link (File links bytes) = File (links + 1) bytes
more_a_link (Directory links blocks) = Directory (links + 1) blocks
more_a_link other = other

abbrev pub with_link : Files → ℕ → Files
with_link files n = with_value files n (more_a_link (files n))

-- behind the 12 blocks to which the inode points itself
abbrev pub cut_short : InodeValue → InodeValue
cut_short (File links bytes) = File links (take 6144 bytes ++ replicate (length bytes - 6144) 0)
cut_short other = other

abbrev pub emptied : InodeValue → InodeValue
emptied value = if nat_le (links_of value) 1 then cut_short value else value

abbrev pub with_emptied : Files → ℕ → Files
with_emptied files n = with_value files n (emptied (files n))

-- What is asked: an edit of a directory's block at an index; of the block that has an inode; of that, or of the inode's block of pointers; what an entry
-- more in a directory needs, by its 32 bytes; what a block of inodes more does; what the part does that begins at a place and comes after an edit, where bytes
-- are written into a file at an offset; what the first block of inodes needs.
pub data Ask : Type 0 where
  OfEntry : (d index : ℕ) → Ask
  OfInode : (n : ℕ) → Ask
  OfLink : (n : ℕ) → Ask
  ForEntry : (d : ℕ) (entry : List ℕ) → Ask
  ForInodes : Ask
  OfPart : (n offset : ℕ) (bytes : List ℕ) (at : ℕ) (after : Option ℕ) → Ask
  ForTop : Ask

abbrev pub Asks : Types → ℕ → Ask → StoreState → StoreState → FfsFault → Type 0
Asks T fs (OfEntry d index) before new fault =
    (new ≡ before) × MatchResult (directory_in (newest_block before) fs d) (λ inode. Wants T before fs (direct_in inode index) fault) (λ other. ⊥)
Asks T fs (OfInode n) before new fault = StopsAtHome T fs before new n fault
Asks T fs (OfLink n) before new fault = (new ≡ before) × (WantsHome T before fs n fault ⊎ WantsPointers T before fs n fault)
Asks T fs (ForEntry d entry) before new fault = StopsEntering T fs before new d entry fault
Asks T fs ForInodes before new fault = StopsGrowing T fs before new fault
Asks T fs (OfPart n offset bytes at after) before new fault = StopsPart T fs (parts_at fs n offset bytes at after) before new n fault
Asks T fs ForTop before new fault = StopsTop T fs before new fault

abbrev pub Stages : Type 0
Stages = List (Files × Ask)

abbrev pub IsStage : Types → ℕ → StoreState → FfsFault → Stages → Type 0
IsStage T fs new fault [] = ⊥
IsStage T fs new fault ((files, ask) ∷ rest) =
    ((before : StoreState) × (files_of (newest_block before) fs ≡ files) × Asks T fs ask before new fault) ⊎ IsStage T fs new fault rest

abbrev pub stages_of : {A : Type 0} → Result A FfsFault → (A → Stages) → Stages
stages_of (Ok x) f = f x
stages_of (Err fault) f = []

-- at the first of them nothing was done
abbrev pub IsRefused : Types → ℕ → StoreState → StoreState → FfsFault → Stages → Type 0
IsRefused T fs old new fault [] = ⊥
IsRefused T fs old new fault ((files, ask) ∷ rest) = Asks T fs ask old new fault ⊎ IsStage T fs new fault rest

-- The function's fault is answered, and nothing changes. Or else what it answers is answered, and the files are those that it says; or the store is short of
-- something for what is asked at one of the stages.
abbrev pub Does : {A : Type 0} → Types → ℕ → Answer A → Stages → StoreState → StoreState → Result A FfsFault → Type 0
Does T fs (Err fault) stages old new result = (result ≡ Err fault) × (new ≡ old)
Does T fs (Ok next) stages old new result =
    MatchResult result (Leads (Ok next) (newest_block new) fs) (λ fault. (is_short fault ≡ true) × IsRefused T fs old new fault stages)

-- Stages of the calls

-- `make`, while there is no inode
abbrev pub make_stages : Files → Stages
make_stages files = (files, ForTop) ∷ []

abbrev pub link_stages : Files → ℕ → Stages
link_stages files n = (files, OfLink n) ∷ (with_emptied files n, OfLink n) ∷ []

abbrev pub cleared_stages : Files → ℕ → (ℕ × ℕ) × ℕ → Stages
cleared_stages files d found = (files, OfEntry d found.0.0) ∷ link_stages (with_entry files d found.0 None) found.1

-- `unlink` and `rmdir`
abbrev pub removed_stages : Files → ℕ → List ℕ → Stages
removed_stages files d name = stages_of (and_then (directory_of (files d)) (entry_named name)) (cleared_stages files d)

abbrev pub made_stages : InodeValue → Files → ℕ → List ℕ → ℕ → Stages
made_stages value files d name n =
    (files, ForInodes) ∷ (with_block files n, OfInode n) ∷ (with_value (with_block files n) n value, ForEntry d (entry_of n name)) ∷ []

-- `create` and `mkdir`, for the number that they would answer
abbrev pub created_stages : InodeValue → Files → ℕ → List ℕ → Stages
created_stages value files d name = stages_of (created value files d name) (λ next. made_stages value files d name next.0)

abbrev pub moved_stages : Files → ℕ → (ℕ × ℕ) × ℕ → ℕ → List ℕ → ℕ × ℕ → Stages
moved_stages files d found other new_name at =
    let named = with_entry (with_link files found.1) other at (Some (new_name, found.1)) in
    (files, OfInode found.1) ∷ (with_link files found.1, ForEntry other (entry_of found.1 new_name)) ∷ (named, OfEntry d found.0.0)
    ∷ link_stages (with_entry named d found.0 None) found.1

abbrev pub found_stages : Files → ℕ → List ℕ → ℕ → List ℕ → (ℕ × Blocks) × (ℕ × Blocks) → Stages
found_stages files d name other new_name both =
    stages_of (ok_or (look_up name both.0.1) NoEntry) (λ found. stages_of (ok_or (room both.1.1) TooLarge) (moved_stages files d found other new_name))

-- `rename`
abbrev pub renamed_stages : Files → ℕ → List ℕ → ℕ → List ℕ → Stages
renamed_stages files d name other new_name = stages_of (both_directories files d name other new_name) (found_stages files d name other new_name)

-- A link more of the inode that the first entry names; the second entry names it, too; the first is cleared, and that link taken; then a link of the
-- former one.
abbrev pub turned_stages : Files → ℕ → (ℕ × ℕ) × ℕ → ℕ → List ℕ → (ℕ × ℕ) × ℕ → Stages
turned_stages files d from other other_name to =
    let linked = with_link files from.1 in
    let named = with_entry linked other to.0 (Some (other_name, from.1)) in
    let left = with_entry named d from.0 None in
    (files, OfInode from.1) ∷ (linked, OfEntry other to.0.0) ∷ (named, OfEntry d from.0.0)
    ∷ (link_stages left from.1 ++ link_stages (without_link left from.1) to.1)

-- onto itself nothing is asked
abbrev pub over_stages : Files → ℕ → (ℕ × ℕ) × ℕ → ℕ → List ℕ → (ℕ × ℕ) × ℕ → Stages
over_stages files d from other other_name to =
    if is_same d from other to then [] else if from.1 == to.1 then cleared_stages files d from else turned_stages files d from other other_name to

-- `replace`
abbrev pub replaced_stages : Files → ℕ → List ℕ → ℕ → List ℕ → Stages
replaced_stages files d name other other_name =
    stages_of (both_directories files d name other other_name) (λ both. stages_of (ok_or (look_up name both.0.1) NoEntry) (λ from.
    stages_of (ok_or (look_up other_name both.1.1) NoEntry) (over_stages files d from other other_name)))

-- What the files don't say of the inodes

-- A name was taken from a directory, or not: its inode has its 64 bytes, and so have all others, in use or not, and their entries and their bytes, but that
-- which was named. If it had more links than one it is as before but for these.
pub record Unnames (old new : ℕ → List ℕ) (fs d n : ℕ) : Type 0 where
  pub home : inode_in new fs d ≡ inode_in old fs d
  pub others : OthersSame old new fs d n
  pub kept : (inode : List ℕ) → Ok inode ≡ inode_in old fs n → 1 < inode_links inode → IsAs old new fs n inode

-- The bytes of an inode are 0 behind the 12 blocks to which it points itself, and else it has its bytes and its entries.
abbrev pub AreEmptied : (ℕ → List ℕ) → (ℕ → List ℕ) → List ℕ → Type 0
AreEmptied old new inode =
    (listing new inode ≡ listing old inode) × ((at : ℕ) → at < most_bytes → byte_of new inode at ≡ (if nat_lt at 6144 then byte_of old inode at else 0))

-- An inode has its 64 bytes, and its entries and all its bytes; or it is emptied so.
abbrev pub KeptOrEmptied : (ℕ → List ℕ) → (ℕ → List ℕ) → ℕ → ℕ → Type 0
KeptOrEmptied old new fs n =
    (inode_in new fs n ≡ inode_in old fs n) × ((inode : List ℕ) → Ok inode ≡ inode_in old fs n → SameContents old new inode ⊎ AreEmptied old new inode)

-- A new inode was made for a directory, or not: it has these 64 bytes, or is as before, or free in a new block of inodes. The directory keeps its pointers and
-- has its size, or 512 times its blocks. All others have their 64 bytes, in use or not, and their entries and their bytes, or are free in that block.
pub record Makes (old new : ℕ → List ℕ) (fs d mode n : ℕ) : Type 0 where
  pub made : (place_in new fs n ≡ Ok (new_inode mode)) ⊎ SameOrNew old new fs n n
  pub directory : (inode after : List ℕ) → Ok inode ≡ directory_in old fs d → Ok after ≡ directory_in new fs d → IsExtended inode after
  pub others : (x : ℕ) → x ≢ d → x ≢ n → SameOrNew old new fs n x

-- All but that one, so the directory too, have their 64 bytes, their entries and all their bytes, or are free in that block.
abbrev pub OnlyMade : (ℕ → List ℕ) → (ℕ → List ℕ) → ℕ → ℕ → Type 0
OnlyMade old new fs n = (x : ℕ) → x ≢ n → SameOrNew old new fs n x
