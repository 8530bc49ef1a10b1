-- A session gives up an inode that has no number: no file changes.
use Rattle.std.proofs.Common.{◌≡◌, ◌≢◌, ℕ, Bool, true, false, Result, Ok, Err, refl, sym, ◌∙◌, inl, inr, subst}
use Rattle.xn_model.specs.Lives.{StoreState}
use Rattle.xn_model.specs.Types.{Types}
use Rattle.treefs_model.specs.declared.fault.Fault.{Fault}
use Rattle.treefs.specs.Trimming.{GiveUpDoes}
use Rattle.treefs.specs.declared.volume.Volume.{Volume}
use Rattle.treefs_laws.specs.Kept.{files_in}
use Rattle.treefs_laws.specs.Open.{IsOpen}
use Rattle.treefs_laws.specs.Unnamed.{IsUnnamed}
use Rattle.treefs_session.specs.Freeing.{GivesUp, GivesUpAgain, GivesUpOnce}
use Rattle.treefs_session.specs.Tries.{MakesRoom, most_tries}
use Rattle.treefs_session_laws.specs.Before.{IsAsBefore}
use Rattle.treefs_session_laws.proofs.Room.{before_same, room_before}
use Rattle.treefs_session_laws.proofs.Freed.{writes_before}
use Rattle.treefs_session_laws.proofs.Tried.{tries_end, tries_refused}

module _ (T : Types) (c : ℕ)
    (gives : (old new : StoreState) (v : Volume) (result : Result Bool Fault) → IsOpen T old v → IsUnnamed old v c → GiveUpDoes T old new v c result →
    IsOpen T new v × (files_in new v ≡ files_in old v) × (result ≢ Ok true → IsUnnamed new v c)) where
  abbrev pub Holds : StoreState → Volume → Type 0
  Holds s v = IsOpen T s v × IsUnnamed s v c

  pub record IsSame (old new : StoreState) (v v' : Volume) : Type 0 where
    pub is_open : IsOpen T new v'
    pub files : files_in new v' ≡ files_in old v
    pub clock : v'.memory.clock ≡ v.memory.clock

  same_then : (old middle new : StoreState) (v w x : Volume) → IsSame old middle v w → IsSame middle new w x → IsSame old new v x
  same_then old middle new v w x first second = record {
    is_open = second.is_open;
    files = second.files ∙ first.files;
    clock = second.clock ∙ first.clock;
  }

  from_before : (old new : StoreState) (v v' : Volume) → IsAsBefore T old new v v' → IsSame old new v v'
  from_before old new v v' is = record { is_open = is.is_open; files = is.files; clock = is.clock }

  -- and it has no number still
  abbrev IsStill : StoreState → StoreState → Volume → Volume → Type 0
  IsStill old new v v' = IsSame old new v v' × IsUnnamed new v' c

  holds_then : (old new : StoreState) (v v' : Volume) → IsStill old new v v' → Holds new v'
  holds_then old new v v' is = (is.0.is_open, is.1)

  still_then : (old middle new : StoreState) (v w x : Volume) → IsStill old middle v w → IsStill middle new w x → IsStill old new v x
  still_then old middle new v w x first second = (same_then old middle new v w x first.0 second.0, second.1)

  still_before : (old new : StoreState) (v v' : Volume) → Holds old v → IsAsBefore T old new v v' → IsStill old new v v'
  still_before old new v v' holds is = (from_before old new v v' is, (is.unnamed c holds.1).0)

  still_same : (s : StoreState) (v : Volume) → Holds s v → IsStill s s v v
  still_same s v holds = still_before s s v v holds (before_same T s v holds.0)

  room : (old new : StoreState) (v v' : Volume) (result : Result Bool Fault) → Holds old v → MakesRoom T old new v v' result → IsStill old new v v'
  room old new v v' result holds makes = still_before old new v v' holds (room_before T old new v v' result holds.0 makes)

  abbrev Gives : StoreState → StoreState → Volume → Volume → Result Bool Fault → Type 0
  Gives old new v v' result = GiveUpDoes T old new v c result × (v' ≡ v)

  abbrev Given : StoreState → StoreState → Volume → Volume → Result Bool Fault → Type 0
  Given old new v v' result = IsSame old new v v' × (result ≢ Ok true → IsUnnamed new v' c)

  given : (old new : StoreState) (v v' : Volume) (result : Result Bool Fault) → Holds old v → Gives old new v v' result → Given old new v v' result
  given old new v v' result holds (does, still) =
      let said = gives old new v result holds.0 holds.1 does in
      subst (λ w. Given old new v w result) (sym still) (record { is_open = said.0; files = said.1; clock = refl }, said.2)

  not_given : (fault : Fault) → ◌≢◌ {A = Result Bool Fault} (Err fault) (Ok true)
  not_given fault e = cc e

  refused : (old new : StoreState) (v v' : Volume) (fault : Fault) → Holds old v → Gives old new v v' (Err fault) → IsStill old new v v'
  refused old new v v' fault holds does = let g = given old new v v' (Err fault) holds does in (g.0, g.1 (not_given fault))

  -- once

  once : (old new : StoreState) (v v' : Volume) (result : Result Bool Fault) → Holds old v → GivesUpOnce T c old new v v' result → Given old new v v' result
  once old new v v' (Err fault) holds tries =
      let s = tries_refused T Holds IsStill holds_then still_same still_then room Gives refused most_tries old new v v' fault holds tries in
      (s.0, λ any. s.1)
  once old new v v' (Ok free) holds tries =
      let last = tries_end T Holds IsStill holds_then still_same still_then room Gives (λ old new v v' fault holds again does. refused old new v v' fault holds does)
      most_tries old new v v' free holds tries in
      let g = given last.0 new last.1 v' (Ok free) (holds_then old last.0 v last.1 last.2) last.3 in
      (same_then old last.0 new v last.1 v' last.2.0 g.0, g.1)

  -- and once more

  again : (old new : StoreState) (v v' : Volume) (result : Result Bool Fault) → Holds old v → GivesUpAgain T c old new v v' result → IsSame old new v v'
  again old new v v' (Ok free) holds (inl none) = absurd none
  again old new v v' (Err fault) holds (inl writes) = from_before old new v v' (writes_before T old new v v' (Err fault) holds.0 writes)
  again old new v v' result holds (inr (middle, w, writes, gives_up)) =
      let first = still_before old middle v w holds (writes_before T old middle v w (Ok tt) holds.0 writes) in
      same_then old middle new v w v' first.0 (once middle new w v' result (holds_then old middle v w first) gives_up).0

  not_true : ◌≢◌ {A = Result Bool Fault} (Ok false) (Ok true)
  not_true e = cc e

  pub given_up : (old new : StoreState) (v v' : Volume) (result : Result Bool Fault) → Holds old v → GivesUp T c old new v v' result → IsSame old new v v'
  given_up old new v v' (Ok free) holds (inl (is_free, gives_up)) = (once old new v v' (Ok true) holds gives_up).0
  given_up old new v v' (Err fault) holds (inl gives_up) = (once old new v v' (Err fault) holds gives_up).0
  given_up old new v v' result holds (inr (middle, w, gives_up, more)) =
      let first = once old middle v w (Ok false) holds gives_up in
      same_then old middle new v w v' first.0 (again middle new w v' result (first.0.is_open, first.1 not_true) more)
