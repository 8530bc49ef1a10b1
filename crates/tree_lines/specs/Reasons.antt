-- Why something can't be done at a path.
--     refusal_reason_of    of a refusal of the store
--     reason_of            of the fault of a call on bytes or attributes
--     naming_reason_of     of a call that makes a name: what is too large is the folder
--     path_reason_of       of a path: what goes round are symbolic links, and what is too large is the target of one
use Rattle.std.specs.Prelude.{ℕ}
use Rattle.store_types.specs.declared.refusal.Refusal.{Refusal}
use Rattle.store_types.specs.declared.refusal.Refusal.TheVariants as refusal
use Rattle.treefs_model.specs.declared.fault.Fault.{Fault}
use Rattle.treefs_model.specs.declared.fault.Fault.TheVariants as fault
use Rattle.tree_lines.specs.declared.reason.Reason.{Reason}
use Rattle.tree_lines.specs.declared.reason.Reason.TheVariants as reason

abbrev pub refusal_reason_of : Refusal → ℕ → Reason
refusal_reason_of refusal.NoMemory free = reason.NoMemory
refusal_reason_of refusal.NoSpace free = reason.NoSpace free
refusal_reason_of other free = reason.Refused other

abbrev pub reason_of : Fault → ℕ → Reason
reason_of fault.NoEntry free = reason.Missing
reason_of fault.Exists free = reason.There
reason_of fault.NotDir free = reason.NoFolder
reason_of fault.IsDir free = reason.Folder
reason_of fault.NotEmpty free = reason.NotEmpty
reason_of fault.BadName free = reason.BadName
reason_of fault.NotLink free = reason.NoLink
reason_of fault.TooLarge free = reason.FileTooLarge
reason_of fault.NoInode free = reason.NoNumber
reason_of fault.NoSpace free = reason.NoSpace free
reason_of fault.Cycle free = reason.Cycle
reason_of fault.Full free = reason.Full
reason_of (fault.Kernel refused) free = refusal_reason_of refused free

abbrev pub naming_reason_of : Fault → ℕ → Reason
naming_reason_of fault.TooLarge free = reason.NoPlace
naming_reason_of other free = reason_of other free

abbrev pub path_reason_of : Fault → Reason
path_reason_of fault.Cycle = reason.Loop
path_reason_of fault.TooLarge = reason.LongTarget
path_reason_of other = reason_of other 0
