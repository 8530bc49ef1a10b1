-- What is done to make room changes no file.
use Rattle.std.proofs.Common.{Bool, Result, Ok, Err, sym, ◌∙◌, ap, inl, inr, refl, subst}
use Rattle.xn_model.specs.Lives.{StoreState}
use Rattle.xn_model.specs.Types.{Types}
use Rattle.treefs_model.specs.declared.fault.Fault.{Fault}
use Rattle.treefs.specs.WritingTimes.{WriteTimesDoes}
use Rattle.treefs.specs.declared.volume.Volume.{Volume}
use Rattle.treefs_laws.specs.Open.{IsOpen}
use Rattle.treefs_lookup.specs.Readable.{readable}
use Rattle.treefs_laws.proofs.ForCallers.{alike_same, times_keep, unnamed_then}
use Rattle.treefs_session.specs.Tries.{MakesRoom, WritesTouched}
use Rattle.treefs_session_laws.specs.Before.{IsAsBefore}
use Rattle.treefs_session_laws.proofs.Flushed.{stopped_before, waves_before}

pub before_same : (T : Types) (state : StoreState) (volume : Volume) → IsOpen T state volume → IsAsBefore T state state volume volume
before_same T state volume is_open = record { is_open = is_open; files = refl; tree = refl; clock = refl; unnamed = λ block unnamed. (unnamed, alike_same (readable state volume.tree.fs.number) block) }

pub before_then : (T : Types) (old middle new : StoreState) (volume between volume' : Volume) → IsAsBefore T old middle volume between →
    IsAsBefore T middle new between volume' → IsAsBefore T old new volume volume'
before_then T old middle new volume between volume' first next = record {
  is_open = next.is_open;
  files = next.files ∙ first.files;
  tree = next.tree ∙ first.tree;
  clock = next.clock ∙ first.clock;
  unnamed = unnamed_then old middle new volume between volume' first.unnamed next.unnamed;
}

-- times get their edits
pub times_before : (T : Types) (old new : StoreState) (volume volume' : Volume) (told : Result (Unit {0}) Fault) → IsOpen T old volume →
    WriteTimesDoes T old new volume volume' told → IsAsBefore T old new volume volume'
times_before T old new volume volume' told is_open writes =
    let kept = times_keep T old new volume volume' told is_open writes in
    record { is_open = kept.0; files = kept.1; tree = ap (λ (v : Volume). v.tree) writes.2; clock = ap (λ (v : Volume). v.memory.clock) writes.2; unnamed = kept.2 }

touched_before : (T : Types) (old new : StoreState) (volume volume' : Volume) (result : Result Bool Fault) → IsOpen T old volume →
    WritesTouched T old new volume volume' result → IsAsBefore T old new volume volume'
touched_before T old new volume volume' result is_open (inl none) =
    subst (λ v. IsAsBefore T old new volume v) (sym none.3) (subst (λ s. IsAsBefore T old s volume volume) (sym none.2) (before_same T old volume is_open))
touched_before T old new volume volume' (Ok more) is_open (inr some) = times_before T old new volume volume' (Ok tt) is_open some.1.1
touched_before T old new volume volume' (Err fault) is_open (inr some) = times_before T old new volume volume' (Err fault) is_open some.1

pub room_before : (T : Types) (old new : StoreState) (volume volume' : Volume) (result : Result Bool Fault) → IsOpen T old volume →
    MakesRoom T old new volume volume' result → IsAsBefore T old new volume volume'
room_before T old new volume volume' result is_open (inl wave) =
    subst (λ v. IsAsBefore T old new volume v) (sym wave.3) (waves_before T old new volume 1 is_open wave.1)
room_before T old new volume volume' result is_open (inr (inl idle)) = touched_before T old new volume volume' result is_open idle.2
room_before T old new volume volume' result is_open (inr (inr refused)) =
    subst (λ v. IsAsBefore T old new volume v) (sym refused.3) (stopped_before T old new volume refused.0 is_open refused.2)
