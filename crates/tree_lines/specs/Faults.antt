-- What is told where a line can't be done.
--     TellsReason      the fault of a reason at a path; or there is no memory
--     LacksPlace       why a path has no folder and name
use Rattle.std.specs.Prelude.{◌≡◌, ◌⊎◌, ℕ, Bool, List, [], length, Result, ⊤}
use Rattle.treefs_paths.specs.Components.{IsParted}
use Rattle.tree_lines.specs.Places.{StopsBefore}
use Rattle.tree_lines.specs.declared.fault.Fault.{Fault}
use Rattle.tree_lines.specs.declared.fault.Fault.TheVariants.{At, NoMemory, Volume}
use Rattle.tree_lines.specs.declared.reason.Reason.{Reason}
use Rattle.tree_lines.specs.declared.reason.Reason.TheVariants.{Empty, Top}

abbrev pub TellsReason : Fault → Reason → Type 0
TellsReason (At path told) reason = told ≡ reason
TellsReason NoMemory reason = ⊤
TellsReason other reason = ⊥

-- it is empty; or has no name; or what stands before the name leads nowhere
abbrev pub LacksPlace : (ℕ → List ℕ → Bool → Result ℕ Reason → Type 0) → ℕ → List ℕ → Fault → Type 0
LacksPlace Leads folder path fault = ((length path ≡ 0) × (fault ≡ Volume Empty))
    ⊎ (((before : List ℕ) × (behind : List ℕ) × IsParted path before [] behind × TellsReason fault Top)
    ⊎ ((reason : Reason) × StopsBefore Leads folder path reason × TellsReason fault reason))
