-- Refusals of an edit that is as it should be.
--     is_shortage refusal    memory is wanting, a free block, room for a pending entry, or an entry number
use Rattle.std.specs.Prelude.{Bool, true, false}
use Rattle.store_types.specs.declared.refusal.Refusal.{Refusal}
use Rattle.store_types.specs.declared.refusal.Refusal.TheVariants.{NoMemory, TooManyPending, NoSpace, Exhausted}

abbrev pub is_shortage : Refusal → Bool
is_shortage NoMemory = true
is_shortage TooManyPending = true
is_shortage NoSpace = true
is_shortage Exhausted = true
is_shortage refusal = false
