-- What a flush does to the state of a store, whatever its lanes are, and what stays over it.
--     EndsWrite block given is_durable old new    how the write of a block ends
--     StateWave n room durable old new            a wave of n blocks, so many at most, of which so many are made durable
--     StateWaves n old new                        so many waves, all of whose blocks are
--     StateRefuses old refusal new                a flush that is refused or stops
--     KeepsNewest old new                         each block goes on with its newest bytes, but that dropped ones may be free
--     MayHold crash lanes image                   what a crash may leave of lanes
use Rattle.std.specs.Prelude.{◌≡◌, ◌⊎◌, ℕ, zero, suc, ◌<◌, ◌≤◌, Bool, true, false, cond, List, Option, Some, None, Ok, IsTrue, slice_get}
use Rattle.xn_model.specs.Lives.{Life, Lives, StoreState, current, is_dropped, life_at}
use Rattle.store_types.specs.declared.refusal.Refusal.{Refusal}
use Rattle.store_types.specs.declared.refusal.Refusal.TheVariants.{InFlight, Device, NoMemory}
use Rattle.xn_model.specs.Calls.{pick_of, begun_of, settled_of}
use Rattle.xn_model.specs.Rules.{IsIdle}
use Rattle.xn_kernel.specs.Drains.{IsBusy}
use Rattle.xn_kernel.specs.Flushes.{wave_room}

-- Waves of a state

-- The begun bytes are durable; or the durable ones are there still, and what the write carries stays pending; or it stays under way.
abbrev pub EndsWrite : ℕ → List ℕ × ℕ → Bool → StoreState → StoreState → Type 0
EndsWrite block given true old new = (freed : ℕ) × (settled_of old block given.0 ≡ Ok ((given.1, freed), new))
EndsWrite block given false old new = ((bytes : List ℕ) × (settled_of old block bytes ≡ Ok ((0, 0), new))) ⊎ (new ≡ old)

-- The first block of a wave is begun, then all others are and end, and then the first one ends.
pub record StateWaveFirst (Rest : ℕ → ℕ → StoreState → StoreState → Type 0) (room durable : ℕ) (old new : StoreState) : Type 0 where
  pub block : ℕ
  pub picked : pick_of old ≡ Some block
  -- the bytes to write, and how many entries they carry
  pub given : List ℕ × ℕ
  pub begun : StoreState
  pub begins : begun_of old block ≡ Ok (given, begun)
  -- the room for others, and how many of them are made durable
  pub left : ℕ
  pub room_is : room ≡ suc left
  pub others : ℕ
  pub mid : StoreState
  pub rest : Rest left others begun mid
  pub is_durable : Bool
  pub ends : EndsWrite block given is_durable mid new
  pub counts : durable ≡ cond is_durable (suc others) others

-- It has so many blocks: there is no room for more, or none that could be begun.
abbrev pub StateWave : ℕ → ℕ → ℕ → StoreState → StoreState → Type 0
StateWave zero room durable old new = (durable ≡ 0) × (new ≡ old) × ((room ≡ 0) ⊎ (pick_of old ≡ None))
StateWave (suc n) room durable old new = StateWaveFirst (StateWave n) room durable old new

-- Each of them has at least one block, and all its blocks are made durable.
abbrev pub StateWaves : ℕ → StoreState → StoreState → Type 0
StateWaves zero old new = new ≡ old
StateWaves (suc n) old new =
    (mid : StoreState) × ((blocks : ℕ) × (1 ≤ blocks) × StateWave blocks wave_room blocks old mid) × StateWaves n mid new

-- A flush that is refused before its first wave, as a write is under way or memory is wanting; or that stops in a wave of which some
-- block is not made durable, after whole ones.
abbrev pub StateRefuses : StoreState → Refusal → StoreState → Type 0
StateRefuses old InFlight new = IsBusy old × (new ≡ old)
StateRefuses old NoMemory new = IsIdle old.lives × (new ≡ old)
StateRefuses old Device new =
    IsIdle old.lives × ((waves : ℕ) × (mid : StoreState) × StateWaves waves old mid
    × ((blocks durable : ℕ) × (durable < blocks) × StateWave blocks wave_room durable mid new))
StateRefuses old _ new = ⊥

-- What stays

-- A block that is alive stays so, of its file system and type, with its status and its newest bytes, or it was dropped and is free; a free one stays free.
abbrev pub GoesOn : Option Life → Option Life → Type 0
GoesOn None new = new ≡ None
GoesOn (Some l) None = IsTrue (is_dropped l.status)
GoesOn (Some l) (Some m) = (m.fs ≡ l.fs) × (m.ty ≡ l.ty) × (m.status ≡ l.status) × (current m ≡ current l)

abbrev pub KeepsNewest : Lives → Lives → Type 0
KeepsNewest old new = (b : ℕ) → GoesOn (life_at old b) (life_at new b)

-- each lane that is here has left what a crash may leave of it
abbrev pub MayHold : {L : Type 0} → (L → List ℕ → Type 0) → List (Option L) → (ℕ → List ℕ) → Type 0
MayHold {L} crash lanes image = (b : ℕ) (lane : L) → slice_get lanes b ≡ Some (Some lane) → crash lane (image b)
