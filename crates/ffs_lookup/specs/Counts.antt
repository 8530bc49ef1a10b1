-- How many entries of a file system's directories name an inode, and whether it has links for them.
--     directory_inodes_in             the inodes of its directories, by number
--     all_entries                their entries
--     numbers_of, named_numbers  the inodes that some entries name; that all of them name
--     names_count, links_in      how many entries name an inode; the links that it has, 0 where none is in use
--     is_over, over_named        more name it than it has links; the least number of which that is so
--     open_in, make_from         what `open` and `make` look up
--     numbers_in, AreCounts      the inodes that the entries of one block name; what is counted of some numbers
use Rattle.std.specs.Prelude.{◌≡◌, ◌≢◌, ℕ, ◌+◌, ◌*◌, ◌<◌, Bool, ◌==◌, nat_lt, min, List, [], ◌∷◌, length, map, filter, filter_map, flat_map, count_by}
use Rattle.std.specs.Prelude.{slice_index, Contains, Option, Some, None, Result, Ok, Err, if◌then◌else◌}
use Rattle.std.specs.List.{range_with_len}
use Rattle.std.specs.Result.{result_ok}
use Rattle.xn_model.specs.Lives.{StoreState}
use Rattle.xn_model.specs.Calls.{pending_of}
use Rattle.ffs_model.specs.Cuts.{latest}
use Rattle.ffs_model.specs.Library.{half_at, inode_links}
use Rattle.ffs_lookup.specs.declared.fault.FfsFault.{FfsFault}
use Rattle.ffs_lookup.specs.declared.fault.FfsFault.TheVariants.{Unsound, Pending}
use Rattle.ffs_lookup.specs.declared.places.Slot.{Slot}
use Rattle.ffs_lookup.specs.declared.counts.NameCounts.{NameCounts}
use Rattle.ffs_lookup.specs.Newest.{and_then, directory_in, slots_of, inode_block_in, inode_in, make_in}

abbrev pub directory_inodes_in : (ℕ → List ℕ) → ℕ → List (List ℕ)
directory_inodes_in content fs = filter_map (λ n. result_ok (directory_in content fs n)) (range_with_len 1 128)

abbrev pub all_entries : (ℕ → List ℕ) → ℕ → List Slot
all_entries content fs = flat_map (slots_of content) (directory_inodes_in content fs)

abbrev pub numbers_of : List Slot → List ℕ
numbers_of entries = map (λ entry. entry.inode) entries

abbrev pub named_numbers : (ℕ → List ℕ) → ℕ → List ℕ
named_numbers content fs = numbers_of (all_entries content fs)

abbrev pub names_count : (ℕ → List ℕ) → ℕ → ℕ → ℕ
names_count content fs n = count_by (λ m. m == n) (named_numbers content fs)

abbrev pub links_or_none : Result (List ℕ) FfsFault → ℕ
links_or_none (Ok inode) = inode_links inode
links_or_none (Err fault) = 0

abbrev pub links_in : (ℕ → List ℕ) → ℕ → ℕ → ℕ
links_in content fs n = links_or_none (inode_in content fs n)

abbrev pub is_over : (ℕ → List ℕ) → ℕ → ℕ → Bool
is_over content fs n = nat_lt (links_in content fs n) (names_count content fs n)

-- the least of some numbers
abbrev pub least_with : ℕ → Option ℕ → Option ℕ
least_with x None = Some x
least_with x (Some y) = Some (min x y)

abbrev pub least : List ℕ → Option ℕ
least [] = None
least (x ∷ xs) = least_with x (least xs)

unfoldable pub over_named : (ℕ → List ℕ) → ℕ → Option ℕ
over_named content fs = least (filter (is_over content fs) (named_numbers content fs))

-- What `open` and `make` look up

abbrev pub unless_over : Option ℕ → Result (Unit {0}) FfsFault
unless_over None = Ok tt
unless_over (Some n) = Err (Unsound n)

-- a block of inodes at index 0, and links for all names
abbrev pub sound_in : (ℕ → List ℕ) → ℕ → Result (Unit {0}) FfsFault
sound_in content fs = and_then (inode_block_in content fs 0) (λ block. unless_over (over_named content fs))

-- nothing pending first
abbrev pub if_idle : {A : Type 0} → StoreState → ℕ → Result A FfsFault → Result A FfsFault
if_idle state fs found = if pending_of state fs == 0 then found else Err Pending

abbrev pub open_in : StoreState → ℕ → Result (Unit {0}) FfsFault
open_in state fs = if_idle state fs (sound_in (latest state.lives) fs)

abbrev pub make_from : StoreState → ℕ → Result Bool FfsFault
make_from state fs = if_idle state fs (make_in (latest state.lives) fs)

-- What is counted

-- an entry that names no inode is none
abbrev pub named : ℕ → List ℕ
named n = if n == 0 then [] else n ∷ []

abbrev pub numbers_at : List ℕ → List ℕ → List ℕ
numbers_at m places = flat_map (λ place. named (half_at m (32 * place))) places

abbrev pub numbers_in : List ℕ → List ℕ
numbers_in m = numbers_at m (range_with_len 0 16)

-- The counts of 1 to 128 among some numbers, each cut off at 2^32 - 1, and the least that is past 128.
pub record AreCounts (numbers : List ℕ) (counts : NameCounts) : Type 0 where
  pub some : (n : ℕ) → Contains numbers n → n ≢ 0
  pub long : length counts.each ≡ 128
  pub each : (i : ℕ) → i < 128 → slice_index counts.each i ≡ min (count_by (λ m. m == i + 1) numbers) 4294967295
  pub past : counts.past ≡ least (filter (nat_lt 128) numbers)
