-- The numbers of the faults.
use Rattle.std.specs.Prelude.{ℕ}
use Rattle.ffs_lookup.specs.declared.fault.FfsFault.{FfsFault}
use Rattle.ffs_lookup.specs.declared.fault.FfsFault.TheVariants.{NoEntry, Exists, NotDir, IsDir, DirNotEmpty, BadName, TooLarge, NoInode, Kernel, Unsound}
use Rattle.ffs_lookup.specs.declared.fault.FfsFault.TheVariants.{Pending}

abbrev pub fault_number : FfsFault → ℕ
fault_number NoEntry = 1
fault_number Exists = 2
fault_number NotDir = 3
fault_number IsDir = 4
fault_number DirNotEmpty = 5
fault_number BadName = 6
fault_number TooLarge = 7
fault_number NoInode = 8
fault_number (Kernel refusal) = 9
fault_number (Unsound inode) = 10
fault_number Pending = 11
