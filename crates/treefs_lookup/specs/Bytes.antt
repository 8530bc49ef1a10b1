-- What reads answer.
--     file_end            how many bytes of a size can be there
--     part_left byte      how many bytes stand together from one on, in the inode or in a leaf
--     bytes_from          bytes of a content, from one on
--     read_count, read_into    how many bytes a read of a file answers, and what it leaves of those that it was given
use Rattle.std.specs.Prelude.{ℕ, ◌-◌, ◌%◌, min, nat_lt, List, ◌++◌, drop, length, map, Result, Ok, Err, if◌then◌else◌}
use Rattle.std.specs.List.{range_with_len}
use Rattle.treefs_format.specs.Leaves.{greatest_size}
use Rattle.treefs_model.specs.Reading.{byte_of}
use Rattle.treefs_model.specs.declared.fault.Fault.{Fault}
use Rattle.treefs_lookup.specs.declared.inodes.Found.{Found}

abbrev pub file_end : ℕ → ℕ
file_end size = min size greatest_size

abbrev pub part_left : ℕ → ℕ
part_left byte = if nat_lt byte 384 then 384 - byte else 512 - byte % 512

abbrev pub bytes_from : (ℕ → List ℕ) → ℕ → ℕ → ℕ → List ℕ
bytes_from content inode at count = map (byte_of content inode) (range_with_len at count)

-- at most so many bytes from one on
abbrev pub count_from : Found → ℕ → ℕ → ℕ
count_from file at most = min most (file_end file.fields.size - at)

abbrev pub read_count : Result Found Fault → ℕ → ℕ → Result ℕ Fault
read_count (Ok file) at most = Ok (count_from file at most)
read_count (Err fault) at most = Err fault

abbrev pub read_into : (ℕ → List ℕ) → Result Found Fault → ℕ → List ℕ → List ℕ
read_into content (Ok file) at old = bytes_from content file.block at (count_from file at (length old)) ++ drop (count_from file at (length old)) old
read_into content (Err fault) at old = old
