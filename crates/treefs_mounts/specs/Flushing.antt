-- What is written: all that is pending in a store, the times of a volume, and the mark that it is closed, or open.
--     Flushes            all that is pending is written
--     FlushesPending     the same, where something of a file system is pending
--     FlushesVolume      the times that no edit has written are written first
--     Marks              inode 0 says that the volume is closed, or open, and that is written
use Rattle.std.specs.Prelude.{◌≡◌, ◌⊎◌, ℕ, ◌==◌, Bool, Result, Ok, Err, MatchBool, MatchResult}
use Rattle.flush_store.specs.Written.{AllWritten}
use Rattle.flush_store.specs.FlushedStates.{StateRefuses, StateWaves}
use Rattle.xn_model.specs.Calls.{pending_of}
use Rattle.xn_model.specs.Lives.{StoreState}
use Rattle.xn_model.specs.Rules.{IsIdle}
use Rattle.xn_model.specs.Types.{Types}
use Rattle.store_types.specs.declared.refusal.Refusal.{Refusal}
use Rattle.treefs_model.specs.declared.fault.Fault.{Fault}
use Rattle.treefs_model.specs.declared.fault.Fault.TheVariants.{Kernel}
use Rattle.treefs_edits.specs.Plans.{Does}
use Rattle.treefs.specs.Opening.{mark_plan}
use Rattle.treefs.specs.WritingTimes.{WriteTimesDoes}
use Rattle.treefs.specs.declared.volume.Volume.{Volume}

-- in waves, and nothing is pending then
abbrev pub Flushes : StoreState → StoreState → Result (Unit {0}) Fault → Type 0
Flushes old new result = MatchResult result
    (λ done. ((waves : ℕ) × StateWaves waves old new) × (IsIdle old.lives × IsIdle new.lives) × AllWritten new.lives)
    (λ fault. (refusal : Refusal) × StateRefuses old refusal new × (fault ≡ Kernel refusal))

abbrev pub FlushesPending : ℕ → StoreState → StoreState → Result (Unit {0}) Fault → Type 0
FlushesPending fs old new result = MatchBool (pending_of old fs == 0) ((result ≡ Ok tt) × (new ≡ old)) (Flushes old new result)

abbrev pub FlushesVolume : Types → StoreState → StoreState → Volume → Volume → Result (Unit {0}) Fault → Type 0
FlushesVolume T old new volume volume' result =
    MatchResult result (λ done. ⊥) (λ fault. WriteTimesDoes T old new volume volume' (Err fault))
    ⊎ ((middle : StoreState) × WriteTimesDoes T old middle volume volume' (Ok tt) × Flushes middle new result)

abbrev pub Marks : Types → StoreState → StoreState → Volume → Bool → Result (Unit {0}) Fault → Type 0
Marks T old new volume clean result =
    MatchResult result (λ done. ⊥) (λ fault. Does T volume.tree.fs.number (mark_plan volume.tree.top clean) old new (Err fault))
    ⊎ ((middle : StoreState) × Does T volume.tree.fs.number (mark_plan volume.tree.top clean) old middle (Ok tt) × Flushes middle new result)
