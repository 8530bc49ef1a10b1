-- Buckets: 384 or 512 bytes that begin with records of names.
--     is_whole bytes         the bytes behind the records are 0
--     room_behind bytes      how many bytes are left behind the records
--     room_without bytes     and without the dead ones
--     live_record, dead_record    the first record of a name that is live, or dead
--     other_record           the first record of a number, but for the one at a place
--     rewritten bytes        the live records in their order, and zeros up to the old end
--     made, with_number      a bucket with a record made behind the others; with the number of one set
use Rattle.std.specs.Prelude.{ℕ, ◌-◌, ◌==◌, Bool, not, ◌&&◌, List, ◌++◌, length, drop, filter, find, Option, bytes_eq, if◌then◌else◌}
use Rattle.std.specs.Int.{w32, to_le_bytes}
use Rattle.xn_model.specs.BareDisks.{zeros}
use Rattle.xn_model.specs.Lists.{blank, put}
use Rattle.treefs_format.specs.Records.{Entry, Record, entry_bytes, entries_of, records_of, end_of, is_live, joined, total_length}

abbrev pub is_whole : List ℕ → Bool
is_whole bytes = blank (drop (end_of bytes) bytes)

abbrev pub live_entries : List ℕ → List Entry
live_entries bytes = filter is_live (entries_of bytes)

abbrev pub room_behind : List ℕ → ℕ
room_behind bytes = length bytes - end_of bytes

abbrev pub room_without : List ℕ → ℕ
room_without bytes = length bytes - total_length (live_entries bytes)

abbrev pub has_name : List ℕ → Record → Bool
has_name name r = bytes_eq r.entry.name name

abbrev pub live_record : List ℕ → List ℕ → Option Record
live_record bytes name = find (λ r. is_live r.entry && has_name name r) (records_of bytes)

abbrev pub dead_record : List ℕ → List ℕ → Option Record
dead_record bytes name = find (λ r. not (is_live r.entry) && has_name name r) (records_of bytes)

abbrev pub other_record : List ℕ → ℕ → ℕ → Option Record
other_record bytes number place = find (λ r. (r.entry.number == number) && not (r.offset == place)) (records_of bytes)

-- as many bytes as the records have
abbrev pub rewritten : List ℕ → List ℕ
rewritten bytes = joined (live_entries bytes) ++ zeros (end_of bytes - total_length (live_entries bytes))

abbrev pub made : List ℕ → Entry → List ℕ
made bytes e = put bytes (end_of bytes) (entry_bytes e)

abbrev pub with_number : List ℕ → ℕ → ℕ → List ℕ
with_number bytes place number = put bytes place (to_le_bytes w32 number)

abbrev pub renumbered : ℕ → ℕ → Record → Record
renumbered place number r = if r.offset == place then record r { entry = record { number = number; name = r.entry.name } } else r
