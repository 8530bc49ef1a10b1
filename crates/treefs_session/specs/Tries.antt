-- A call is made until it has room.
--     MakesRoom     one wave is written; or nothing is pending, and the times that no edit has written get their edits
--     RoomAfter     what is told of a call that was refused: nothing, where it was full and there is room now
--     TriesOnce     a call is made; what is told of it
--     Tries         a call is made until something is told
use Rattle.std.specs.Prelude.{◌≡◌, ◌⊎◌, ℕ, zero, suc, ◌<◌, Bool, true, false, length, Option, None, Some, Result, Ok, Err, MatchResult}
use Rattle.flush_store.specs.Written.{AllWritten}
use Rattle.flush_store.specs.FlushedStates.{StateRefuses, StateWaves}
use Rattle.xn_model.specs.Lives.{StoreState}
use Rattle.xn_model.specs.Rules.{IsIdle}
use Rattle.xn_model.specs.Types.{Types}
use Rattle.store_types.specs.declared.refusal.Refusal.{Refusal}
use Rattle.treefs_model.specs.declared.fault.Fault.{Fault}
use Rattle.treefs_model.specs.declared.fault.Fault.TheVariants.{Full, Kernel}
use Rattle.treefs.specs.WritingTimes.{WriteTimesDoes}
use Rattle.treefs.specs.declared.volume.Volume.{Volume}

-- Room

-- whether there are times that no edit has written, each of which gets one then
abbrev pub WritesTouched : Types → StoreState → StoreState → Volume → Volume → Result Bool Fault → Type 0
WritesTouched T old new volume volume' result =
    ((length volume.memory.touched ≡ 0) × (result ≡ Ok false) × (new ≡ old) × (volume' ≡ volume))
    ⊎ ((0 < length volume.memory.touched) × MatchResult result (λ more. (more ≡ true) × WriteTimesDoes T old new volume volume' (Ok tt))
    (λ fault. WriteTimesDoes T old new volume volume' (Err fault)))

-- a wave; or nothing is pending; or the flush is refused, or stops
abbrev pub MakesRoom : Types → StoreState → StoreState → Volume → Volume → Result Bool Fault → Type 0
MakesRoom T old new volume volume' result =
    ((result ≡ Ok true) × StateWaves 1 old new × (IsIdle old.lives × IsIdle new.lives) × (volume' ≡ volume))
    ⊎ ((IsIdle old.lives × AllWritten old.lives × WritesTouched T old new volume volume' result)
    ⊎ ((refusal : Refusal) × (result ≡ Err (Kernel refusal)) × StateRefuses old refusal new × (volume' ≡ volume)))

-- Tries

abbrev pub is_full : Fault → Bool
is_full Full = true
is_full _ = false

-- what is told where no room could be made; whether there is some now
abbrev pub told_of_room : Result Bool Fault → Option Fault
told_of_room (Ok true) = None
told_of_room (Ok false) = Some Full
told_of_room (Err fault) = Some fault

abbrev pub RoomAfter : Types → StoreState → StoreState → Volume → Volume → Fault → Option Fault → Type 0
RoomAfter T old new volume volume' fault told =
    ((is_full fault ≡ false) × (told ≡ Some fault) × (new ≡ old) × (volume' ≡ volume))
    ⊎ ((is_full fault ≡ true) × ((room : Result Bool Fault) × MakesRoom T old new volume volume' room × (told ≡ told_of_room room)))

abbrev pub as_answer : {A : Type 0} → Option Fault → Option (Result A Fault)
as_answer None = None
as_answer (Some fault) = Some (Err fault)

-- Does: what the call does
abbrev pub TriesOnce : {A : Type 0} → (StoreState → StoreState → Volume → Volume → Result A Fault → Type 0) → Types → StoreState → StoreState → Volume → Volume
    → Option (Result A Fault) → Type 0
TriesOnce {A} Does T old new volume volume' told =
    ((answer : A) × (told ≡ Some (Ok answer)) × Does old new volume volume' (Ok answer))
    ⊎ ((fault : Fault) × (middle : StoreState) × (between : Volume) × (left : Option Fault) × Does old middle volume between (Err fault)
    × RoomAfter T middle new between volume' fault left × (told ≡ as_answer left))

-- left: how often it is made at most
abbrev pub Tries : {A : Type 0} → (StoreState → StoreState → Volume → Volume → Result A Fault → Type 0) → Types → ℕ → StoreState → StoreState → Volume → Volume
    → Result A Fault → Type 0
Tries Does T zero old new volume volume' result = (result ≡ Err Full) × (new ≡ old) × (volume' ≡ volume)
Tries Does T (suc left) old new volume volume' result =
    TriesOnce Does T old new volume volume' (Some result)
    ⊎ ((middle : StoreState) × (between : Volume) × TriesOnce Does T old middle volume between None × Tries Does T left middle new between volume' result)

-- once for each block of the largest disk
unfoldable pub most_tries : ℕ
most_tries = 1048576
