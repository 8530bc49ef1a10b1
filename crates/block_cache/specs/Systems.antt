-- For whom an entry counts, and whose a block is.
use Rattle.std.specs.Prelude.{ℕ, Option, option_map}
use Rattle.edit_list.specs.declared.fs.Fs.{Fs}

-- the number of a file system, or none where it is nobody
abbrev pub system_of : Option Fs → Option ℕ
system_of fs = option_map (λ (f : Fs). f.number) fs
