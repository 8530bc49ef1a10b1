-- What truncate does.
use Rattle.std.specs.Prelude.{◌≡◌, ◌⊎◌, ℕ, true, Option, Result, Ok, Err, MatchResult}
use Rattle.xn_model.specs.Types.{Types}
use Rattle.xn_model.specs.Lives.{StoreState}
use Rattle.treefs_model.specs.declared.fault.Fault.{Fault}
use Rattle.treefs_lookup.specs.Readable.{readable}
use Rattle.treefs_edits.specs.Plans.{Does}
use Rattle.treefs_byte_plans.specs.Sizes.{IsTrimToTruncate, size_plan, truncate_planned}
use Rattle.treefs_byte_plans.specs.declared.kept.Kept.{Kept}
use Rattle.treefs_byte_plans.specs.declared.size.SizePlan.{SizePlan}
use Rattle.treefs.specs.Changed.{changed_volume}
use Rattle.treefs.specs.Trimming.{TrimsFirst}
use Rattle.treefs.specs.declared.volume.Volume.{Volume}

-- a call that fails leaves all as it is, in the store and in memory
abbrev pub Refuses : {A : Type 0} → Fault → StoreState → StoreState → Volume → Volume → Result A Fault → Type 0
Refuses fault old new volume volume' result = (result ≡ Err fault) × (new ≡ old) × (volume' ≡ volume)

-- the size is set, and where it falls what stands past it is trimmed
abbrev pub SizeDoes : Types → StoreState → StoreState → Volume → Volume → ℕ → Result SizePlan Fault → Result (Unit {0}) Fault → Type 0
SizeDoes T old new volume volume' number (Err fault) result = Refuses fault old new volume volume' result
SizeDoes T old new volume volume' number (Ok plan) result =
    (MatchResult result (λ done. ⊥) (λ fault. Does T volume.tree.fs.number (size_plan plan) old new (Err fault)) × (volume' ≡ volume))
    ⊎ ((middle : StoreState) × Does T volume.tree.fs.number (size_plan plan) old middle (Ok tt) × (volume' ≡ changed_volume volume number true)
    × TrimsFirst T volume.tree.fs.number volume'.memory plan.trimmed_then middle new result)

abbrev pub TruncateDoes : Types → StoreState → StoreState → Volume → Volume → ℕ → ℕ → Result (Unit {0}) Fault → Type 0
TruncateDoes T old new volume volume' number size result =
    (kept : Option Kept) × IsTrimToTruncate (readable old volume.tree.fs.number) volume.tree.top number size kept
    × ((MatchResult result (λ done. ⊥) (λ fault. TrimsFirst T volume.tree.fs.number volume.memory kept old new (Err fault)) × (volume' ≡ volume))
    ⊎ ((middle : StoreState) × TrimsFirst T volume.tree.fs.number volume.memory kept old middle (Ok tt)
    × SizeDoes T middle new volume volume' number (truncate_planned middle volume.tree volume.memory number size) result))
