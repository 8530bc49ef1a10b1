-- Bytes are written piece by piece.
--     advanced        where the bytes behind a piece stand
--     WritesPiece     a piece is written
--     WritesAll       all of them are
use Rattle.std.specs.Prelude.{◌≡◌, ℕ, ◌+◌, ◌-◌, ◌^◌, ◌<◌, min, List, drop, length, Result, Ok, Err}
use Rattle.xn_model.specs.Lives.{StoreState}
use Rattle.xn_model.specs.Types.{Types}
use Rattle.treefs_model.specs.declared.fault.Fault.{Fault}
use Rattle.treefs_model.specs.declared.fault.Fault.TheVariants.{Full}
use Rattle.treefs.specs.Writing.{WriteDoes}
use Rattle.treefs.specs.declared.volume.Volume.{Volume}
pub use Rattle.treefs_puts.specs.Writing.{WriteBegunDoes}
use Rattle.treefs_session.specs.Freeing.{MakesFreely}
use Rattle.treefs_session.specs.declared.calls.bytes.Target.{Target}
use Rattle.treefs_session.specs.declared.calls.bytes.Target.TheVariants.{Begun, Numbered}

abbrev pub advanced : Target → ℕ → Target
advanced (Begun block at) taken = Begun block (min (at + taken) (2 ^ 64 - 1))
advanced (Numbered number at) taken = Numbered number (min (at + taken) (2 ^ 64 - 1))

abbrev pub WritesPiece : Types → Target → List ℕ → StoreState → StoreState → Volume → Volume → Result ℕ Fault → Type 0
WritesPiece T (Begun block at) bytes old new volume volume' result = WriteBegunDoes T old new volume block at bytes result × (volume' ≡ volume)
WritesPiece T (Numbered number at) bytes old new volume volume' result = WriteDoes T old new volume volume' number at bytes result

abbrev pub WritesSome : Types → List ℕ → Target → List ℕ → StoreState → StoreState → Volume → Volume → Result ℕ Fault → Type 0
WritesSome T held target bytes = MakesFreely (WritesPiece T target bytes) T held

-- left: what isn't written yet
pub data WritesAll (T : Types) (held : List ℕ) : Target → List ℕ → StoreState → StoreState → Volume → Volume → Result (Unit {0}) Fault → Type 0 where
  whole : {target : Target} {left : List ℕ} {state : StoreState} {volume : Volume} → length left ≡ 0 →
      WritesAll T held target left state state volume volume (Ok tt)
  stops : {target : Target} {left : List ℕ} {old new : StoreState} {volume volume' : Volume} {fault : Fault} → 0 < length left →
      WritesSome T held target left old new volume volume' (Err fault) → WritesAll T held target left old new volume volume' (Err fault)
  stays : {target : Target} {left : List ℕ} {old new : StoreState} {volume volume' : Volume} → 0 < length left →
      WritesSome T held target left old new volume volume' (Ok 0) → WritesAll T held target left old new volume volume' (Err Full)
  goes : {target : Target} {left : List ℕ} {old new : StoreState} {volume volume' : Volume} {result : Result (Unit {0}) Fault} (taken : ℕ)
      (middle : StoreState) (between : Volume) → 0 < length left → 0 < taken → WritesSome T held target left old middle volume between (Ok taken) →
      WritesAll T held (advanced target taken) (drop taken left) middle new between volume' result → WritesAll T held target left old new volume volume' result
