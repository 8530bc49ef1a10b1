-- What is told at the end of a line.
--     EndsLine         nothing more of a line can be done after a fault
--     count_of         how many faults there are so far
--     Tells            a fault more is to be told
--     TellsAt          the same, of a reason at a path
--     LeavesOut        so many faults were told
--     GoesOn           what was done is told where it had a fault; or that ends the line
use Rattle.std.specs.Prelude.{◌≡◌, ◌⊎◌, ℕ, ◌+◌, ◌-◌, ◌^◌, ◌<◌, [], ◌∷◌, ◌++◌, length, min, nat_lt, Result, Ok, Err, MatchBool, MatchResult, ⊤}
use Rattle.tree_lines.specs.Faults.{TellsReason}
use Rattle.tree_lines.specs.declared.fault.Fault.{Fault}
use Rattle.tree_lines.specs.declared.fault.Fault.TheVariants as kinds
use Rattle.tree_lines.specs.declared.reason.Reason.{Reason}
use Rattle.tree_lines.specs.declared.told.Told.{Told}

abbrev pub EndsLine : Fault → Type 0
EndsLine kinds.NoMemory = ⊤
EndsLine (kinds.Stream error) = ⊤
EndsLine (kinds.Flush refusal) = ⊤
EndsLine (kinds.Disk error) = ⊤
EndsLine other = ⊥

abbrev pub count_of : Told → ℕ
count_of told = min (told.more + length told.faults.items) (2 ^ 64 - 1)

-- 1,000 of them are kept; of more their number
abbrev pub Tells : Told → Told → Fault → Type 0
Tells told told' fault = MatchBool (nat_lt (length told.faults.items) 1000)
    ((told'.faults.items ≡ told.faults.items ++ fault ∷ []) × (told'.more ≡ told.more))
    ((told'.faults.items ≡ told.faults.items) × (told'.more ≡ min (told.more + 1) (2 ^ 64 - 1)))

-- it is none that ends the line
abbrev pub TellsAt : Told → Told → Reason → Type 0
TellsAt told told' reason = (fault : Fault) × TellsReason fault reason × ¬ EndsLine fault × Tells told told' fault

-- the last ones of very many are not kept
abbrev pub LeavesOut : Told → Told → ℕ → Type 0
LeavesOut told told' left = (left ≡ 0 → told' ≡ told) × (0 < left → 0 < length told'.faults.items)

-- the line ends for want of memory too
abbrev pub PassesOn : Told → Told → Fault → Result (Unit {0}) Fault → Type 0
PassesOn told told' fault (Ok made) = (¬ EndsLine fault) × Tells told told' fault
PassesOn told told' fault (Err ends) = (ends ≡ kinds.NoMemory) ⊎ (EndsLine fault × (ends ≡ fault))

abbrev pub GoesOn : Told → Told → Result (Unit {0}) Fault → Result (Unit {0}) Fault → Type 0
GoesOn told told' done result = MatchResult done (λ made. (result ≡ Ok tt) × (told' ≡ told)) (λ fault. PassesOn told told' fault result)
