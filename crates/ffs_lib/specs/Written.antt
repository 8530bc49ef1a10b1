-- `write` and `write_some` by the function of the files. A write goes from the file's end, or from its offset where that is before it, to the end of its
-- bytes, part after part, a block each, and then raises the size. The bytes from the file's end to the offset are zeros.
--     first_written              the bytes of a file of which the first are written
--     written_to                 the files with a file's bytes written so far
--     first_place                where the first part begins
--     part_stages, size_stages   where a part is asked for; where the size is
--     if_any                     no stages where there are no bytes
--     written_stages             the stages of `write`
--     place_stages, last_stages  where so many bytes are written; where `write` ends so
--     next_stages                where `write_some` takes so many
--     is_size, some_stages       where a size may be asked for; the stages of `write_some` where it tells of none
--     TakesSome                  what `write_some` leaves where it takes some of the bytes, or none
--     DoesSome                   what `write_some` answers and leaves
--     some_by                    how many of the zeros and the bytes are written where `write_some` answers so
--     WritesTo, WritesSomeTo     what is asked where a write ends by which so many bytes are written
--     Overwrites                 what the files don't say of the inodes
use Rattle.std.specs.Prelude.{◌≡◌, ◌≢◌, ◌==◌, ◌&&◌, ◌||◌, Bool, ◌%◌, ℕ, ◌+◌, ◌-◌, ◌<◌, ◌≤◌, nat_lt, List, [], ◌∷◌, ◌++◌, length, drop, filter, map, min, take}
use Rattle.std.specs.Prelude.{Option, Result, Ok, Err, true, MatchResult, if◌then◌else◌}
use Rattle.std.specs.List.{range_with_len}
use Rattle.store_types.specs.declared.refusal.Refusal.TheVariants.{TooManyPending}
use Rattle.xn_model.specs.Root.{word_at}
use Rattle.xn_model.specs.Types.{Types}
use Rattle.xn_model.specs.Lives.{StoreState}
use Rattle.ffs_model.specs.Library.{inode_mode}
use Rattle.ffs_lookup.specs.declared.fault.FfsFault.{FfsFault}
use Rattle.ffs_lookup.specs.declared.fault.FfsFault.TheVariants.{Kernel}
use Rattle.ffs_lookup.specs.Files.{Answer, File, Files, file_of, with_value, written, written_bytes}
use Rattle.ffs_lookup.specs.Newest.{byte_of, file_end, file_in, is_short, most_bytes}
use Rattle.ffs_lib.specs.Results.{OnlyChanges, byte_written}
use Rattle.ffs_lib.specs.Stages.{IsRefused, IsStage, OfInode, OfPart, Stages, stages_of}
use Rattle.ffs_lib.specs.Steps.{newest_block}
use Rattle.ffs_lib.specs.Values.{Leads}
use Rattle.ffs_lib.specs.WriteOrder.{borders, written_by}
use Rattle.ffs_lib.specs.Writes.{IsBorder, padded}

-- The bytes up to a place are what they are to be, those behind it what they were, and the size is as before.
abbrev pub first_written : List ℕ → List ℕ → ℕ → List ℕ
first_written old new at = take (length old) (take at new ++ drop at old)

abbrev pub written_to : Files → ℕ → ℕ → List ℕ → ℕ × List ℕ → ℕ → Files
written_to files n offset bytes file at = with_value files n (File file.0 (first_written file.1 (written_bytes file.1 offset bytes) at))

-- each part comes after the edit that is named by its place
abbrev pub part_stages : Files → (ℕ → Option ℕ) → ℕ → ℕ → List ℕ → ℕ × List ℕ → List ℕ → Stages
part_stages files after n offset bytes file places = map (λ at. (written_to files n offset bytes file at, OfPart n offset bytes at (after at))) places

abbrev pub size_stages : Files → ℕ → ℕ → List ℕ → ℕ × List ℕ → List ℕ → Stages
size_stages files n offset bytes file places = map (λ at. (written_to files n offset bytes file at, OfInode n)) places

abbrev pub first_place : ℕ × List ℕ → ℕ → ℕ
first_place file offset = min (length file.1) offset

-- nothing is asked where there are no bytes
abbrev pub if_any : List ℕ → Stages → Stages
if_any [] stages = []
if_any (byte ∷ rest) stages = stages

-- all parts, then the size, where it is below
abbrev pub written_stages : Files → (ℕ → Option ℕ) → ℕ → ℕ → List ℕ → Stages
written_stages files after n offset bytes =
    stages_of (file_of (files n)) (λ file. if_any bytes
    (part_stages files after n offset bytes file (borders (first_place file offset) offset (offset + length bytes))
    ++ size_stages files n offset bytes file (filter (nat_lt (length file.1)) ((offset + length bytes) ∷ []))))

-- a part up to the first one with bytes; or the size, where it is below, behind bytes up to where a block begins or to their end
abbrev pub is_size : ℕ → ℕ → ℕ → Bool
is_size end to at = nat_lt end at && ((at % 512 == 0) || (at == to))

abbrev pub some_stages : Files → (ℕ → Option ℕ) → ℕ → ℕ → List ℕ → Stages
some_stages files after n offset bytes =
    stages_of (file_of (files n)) (λ file. if_any bytes
    (part_stages files after n offset bytes file (borders (first_place file offset) offset (offset + 1))
    ++ size_stages files n offset bytes file (filter (is_size (length file.1) (offset + length bytes)) (range_with_len (offset + 1) (length bytes)))))

-- where the first so many of the zeros and the bytes are written: the next part, or the size
abbrev pub place_stages : Files → (ℕ → Option ℕ) → ℕ → ℕ → List ℕ → ℕ → Stages
place_stages files after n offset bytes done =
    stages_of (file_of (files n)) (λ file. part_stages files after n offset bytes file ((first_place file offset + done) ∷ [])
    ++ size_stages files n offset bytes file ((first_place file offset + done) ∷ []))

-- there the next part is asked for, if it is not the end, and else the size
abbrev pub last_stages : Files → (ℕ → Option ℕ) → ℕ → ℕ → List ℕ → ℕ → Stages
last_stages files after n offset bytes done =
    stages_of (file_of (files n)) (λ file. if nat_lt (first_place file offset + done) (offset + length bytes)
    then part_stages files after n offset bytes file ((first_place file offset + done) ∷ [])
    else size_stages files n offset bytes file ((first_place file offset + done) ∷ []))

-- the part behind the first so many of the bytes
abbrev pub next_stages : Files → (ℕ → Option ℕ) → ℕ → ℕ → List ℕ → ℕ → Stages
next_stages files after n offset bytes count = stages_of (file_of (files n)) (λ file. part_stages files after n offset bytes file ((offset + count) ∷ []))

-- The first so many of the bytes are written, if any are. These are all of them, or the store was short of something for the next part. None are only where
-- there are none, or where too many edits are pending for a part, or for the size.
pub record TakesSome (T : Types) (fs : ℕ) (files : Files) (after : ℕ → Option ℕ) (n offset : ℕ) (bytes : List ℕ) (old new : StoreState) (count : ℕ)
    : Type 0 where
  pub few : count ≤ length bytes
  pub leads : count ≢ 0 → Leads (written files n offset (take count bytes)) (newest_block new) fs tt
  pub stopped : count ≢ 0 → count < length bytes → (middle : StoreState) × (fault : FfsFault) × (is_short fault ≡ true)
      × IsStage T fs middle fault (next_stages files after n offset bytes count)
  pub none : count ≡ 0 → bytes ≢ [] → IsRefused T fs old new (Kernel TooManyPending) (some_stages files after n offset bytes)

abbrev pub DoesSome : Types → ℕ → Files → (ℕ → Option ℕ) → ℕ → ℕ → List ℕ → Answer (Unit {0}) → StoreState → StoreState → Result ℕ FfsFault → Type 0
DoesSome T fs files after n offset bytes (Err fault) old new result = (result ≡ Err fault) × (new ≡ old)
DoesSome T fs files after n offset bytes (Ok next) old new result =
    MatchResult result (TakesSome T fs files after n offset bytes old new) (λ fault.
    (fault ≢ Kernel TooManyPending) × (is_short fault ≡ true) × IsRefused T fs old new fault (some_stages files after n offset bytes))

-- What the files don't say: all other inodes have their 64 bytes, in use or not, their entries and all their bytes. The file, whose inode was this one, has
-- its mode, the first so many of the zeros and the bytes, all or up to where a part begins, and its bytes elsewhere, also behind its end; and its size where
-- that is above what a file may have.
pub record Overwrites (old new : ℕ → List ℕ) (fs n : ℕ) (inode : List ℕ) (offset : ℕ) (bytes : List ℕ) (done : ℕ) : Type 0 where
  pub others : OnlyChanges old new fs n
  pub after : List ℕ
  pub file : Ok after ≡ file_in new fs n
  pub mode : inode_mode after ≡ inode_mode inode
  pub size : most_bytes ≤ word_at inode 4 → word_at after 4 ≡ word_at inode 4
  pub few : done ≤ length (padded (file_end inode) offset bytes)
  pub border : done < length (padded (file_end inode) offset bytes) → IsBorder (file_end inode) offset done
  pub each : (at : ℕ) → at < most_bytes → byte_of new after at ≡ byte_written (byte_of old inode) (min (file_end inode) offset)
      (take done (padded (file_end inode) offset bytes)) at

-- All are written; or the next part is asked for there, or the size.
abbrev pub WritesTo : Types → ℕ → Files → (ℕ → Option ℕ) → ℕ → List ℕ → ℕ → List ℕ → ℕ → StoreState → Result (Unit {0}) FfsFault → Type 0
WritesTo T fs files after n inode offset bytes done new result =
    MatchResult result (λ x. bytes ≢ [] → done ≡ length (padded (file_end inode) offset bytes))
    (λ fault. IsStage T fs new fault (last_stages files after n offset bytes done))

-- as many of the bytes as it answers, and all zeros; where it answers none, as many as the numbers of its edits tell
abbrev pub some_by : Types → ℕ → ℕ → List ℕ → ℕ → List ℕ → StoreState → StoreState → Result ℕ FfsFault → ℕ
some_by T fs n inode offset bytes old new (Ok count) = if count == 0 then written_by T fs n inode offset bytes old new else (offset - file_end inode) + count
some_by T fs n inode offset bytes old new (Err fault) = written_by T fs n inode offset bytes old new

-- There are no bytes; or it answers some; or the next part is asked for there, or the size.
abbrev pub WritesSomeTo : Types → ℕ → Files → (ℕ → Option ℕ) → ℕ → ℕ → List ℕ → ℕ → StoreState → Result ℕ FfsFault → Type 0
WritesSomeTo T fs files after n offset bytes done new result =
    MatchResult result (λ count. count ≡ 0 → bytes ≢ [] → IsStage T fs new (Kernel TooManyPending) (place_stages files after n offset bytes done))
    (λ fault. IsStage T fs new fault (place_stages files after n offset bytes done))
