-- A call that a session makes keeps what it keeps where it is made again, and what freeing orphans keeps.
use Rattle.std.proofs.Common.{◌≡◌, ℕ, Bool, true, List, Result, Ok, Err, inl, inr}
use Rattle.xn_model.specs.Lives.{StoreState}
use Rattle.xn_model.specs.Types.{Types}
use Rattle.treefs_model.specs.declared.fault.Fault.{Fault}
use Rattle.treefs.specs.declared.volume.Volume.{Volume}
use Rattle.treefs_laws.specs.Open.{IsOpen}
use Rattle.treefs_session.specs.Freeing.{FreesAndTries, MakesFreely, Syncs, lacks_space}
use Rattle.treefs_session.specs.Tries.{MakesRoom, Tries, most_tries}
use Rattle.treefs_session_laws.specs.Before.{IsAsBeforeButOrphans}
use Rattle.treefs_session_laws.proofs.Room.{before_same, room_before}
use Rattle.treefs_session_laws.proofs.Freed.{as_before, syncs_unheld}
use Rattle.treefs_session_laws.proofs.Tried.{IsAgain, tries_end, tries_lack, tries_refused, tries_told}

-- Holds: of a volume between calls; Keeps: of two states of it, one before the other
module _ (T : Types) (held : List ℕ) (Holds : StoreState → Volume → Type 0)
    (is_open : (s : StoreState) (v : Volume) → Holds s v → IsOpen T s v)
    (Keeps : StoreState → StoreState → Volume → Volume → Type 0)
    (opens : (old new : StoreState) (v v' : Volume) → Keeps old new v v' → Holds new v')
    (chain : (old middle new : StoreState) (v w x : Volume) → Keeps old middle v w → Keeps middle new w x → Keeps old new v x)
    (frees : (old new : StoreState) (v v' : Volume) → Holds old v → IsAsBeforeButOrphans T held old new v v' → Keeps old new v v')
    {A : Type 0} (Does : StoreState → StoreState → Volume → Volume → Result A Fault → Type 0) where
  same : (s : StoreState) (v : Volume) → Holds s v → Keeps s s v v
  same s v holds = frees s s v v holds (as_before T held s s v v (before_same T s v (is_open s v holds)))

  room : (old new : StoreState) (v v' : Volume) (result : Result Bool Fault) → Holds old v → MakesRoom T old new v v' result → Keeps old new v v'
  room old new v v' result holds makes =
      frees old new v v' holds (as_before T held old new v v' (room_before T old new v v' result (is_open old v holds) makes))

  syncs : (old new : StoreState) (v v' : Volume) (result : Result (Unit {0}) Fault) → Holds old v → Syncs T held old new v v' result → Keeps old new v v'
  syncs old new v v' result holds is = frees old new v v' holds (syncs_unheld T held old new v v' result (is_open old v holds) is)

  module _ (refused : (old new : StoreState) (v v' : Volume) (fault : Fault) → Holds old v → IsAgain fault → Does old new v v' (Err fault) →
      Keeps old new v v') where
    abbrev pub IsMadeLast : StoreState → StoreState → Volume → Volume → A → Type 0
    IsMadeLast old new v v' answer = (middle : StoreState) × (w : Volume) × Keeps old middle v w × Does middle new w v' (Ok answer)

    tried : (old new : StoreState) (v v' : Volume) (answer : A) → Holds old v → Tries Does T most_tries old new v v' (Ok answer) →
        IsMadeLast old new v v' answer
    tried old new v v' answer holds tries = tries_end T Holds Keeps opens same chain room Does refused most_tries old new v v' answer holds tries

    frees_and_tries : (old new : StoreState) (v v' : Volume) (answer : A) → Holds old v → FreesAndTries Does T held old new v v' (Ok answer) →
        IsMadeLast old new v v' answer
    frees_and_tries old new v v' answer holds (inl none) = absurd none
    frees_and_tries old new v v' answer holds (inr (middle, w, freed, tries)) =
        let first = syncs old middle v w (Ok tt) holds freed in
        let last = tried middle new w v' answer (opens old middle v w first) tries in
        (last.0, last.1, chain old middle last.0 v w last.1 first last.2, last.3)

    lacks : (old new : StoreState) (v v' : Volume) (fault : Fault) → Holds old v → lacks_space fault ≡ true → Tries Does T most_tries old new v v' (Err fault) →
        Keeps old new v v'
    lacks old new v v' fault holds space tries = tries_lack T Holds Keeps opens same chain room Does refused most_tries old new v v' fault holds space tries

    pub made_last : (old new : StoreState) (v v' : Volume) (answer : A) → Holds old v → MakesFreely Does T held old new v v' (Ok answer) →
        IsMadeLast old new v v' answer
    made_last old new v v' answer holds (inl (tries, space)) = tried old new v v' answer holds tries
    made_last old new v v' answer holds (inr (fault, middle, w, tries, space, freed)) =
        let first = lacks old middle v w fault holds space tries in
        let last = frees_and_tries middle new w v' answer (opens old middle v w first) freed in
        (last.0, last.1, chain old middle last.0 v w last.1 first last.2, last.3)

    -- and of one that keeps it where it answers this
    module _ (Told : Fault → Type 0) (so : (old new : StoreState) (v v' : Volume) (fault : Fault) → Holds old v → Told fault → Does old new v v' (Err fault) →
        Keeps old new v v') where
      told_tries : (old new : StoreState) (v v' : Volume) (fault : Fault) → Holds old v → Told fault → Tries Does T most_tries old new v v' (Err fault) →
          Keeps old new v v'
      told_tries old new v v' fault holds told tries =
          tries_told T Holds Keeps opens same chain room Does refused Told so most_tries old new v v' fault holds told tries

      told_frees : (old new : StoreState) (v v' : Volume) (fault : Fault) → Holds old v → Told fault → FreesAndTries Does T held old new v v' (Err fault) →
          Keeps old new v v'
      told_frees old new v v' fault holds told (inl freed) = syncs old new v v' (Err fault) holds freed
      told_frees old new v v' fault holds told (inr (middle, w, freed, tries)) =
          let first = syncs old middle v w (Ok tt) holds freed in
          chain old middle new v w v' first (told_tries middle new w v' fault (opens old middle v w first) told tries)

      pub made_told : (old new : StoreState) (v v' : Volume) (fault : Fault) → Holds old v → Told fault → MakesFreely Does T held old new v v' (Err fault) →
          Keeps old new v v'
      made_told old new v v' fault holds told (inl (tries, space)) = told_tries old new v v' fault holds told tries
      made_told old new v v' fault holds told (inr (other, middle, w, tries, space, freed)) =
          let first = lacks old middle v w other holds space tries in
          chain old middle new v w v' first (told_frees middle new w v' fault (opens old middle v w first) told freed)

  -- told: of a call that keeps it wherever it is refused
  module _ (refused : (old new : StoreState) (v v' : Volume) (fault : Fault) → Holds old v → Does old new v v' (Err fault) → Keeps old new v v') where
    tried_in_vain : (old new : StoreState) (v v' : Volume) (fault : Fault) → Holds old v → Tries Does T most_tries old new v v' (Err fault) →
        Keeps old new v v'
    tried_in_vain old new v v' fault holds tries = tries_refused T Holds Keeps opens same chain room Does refused most_tries old new v v' fault holds tries

    frees_in_vain : (old new : StoreState) (v v' : Volume) (fault : Fault) → Holds old v → FreesAndTries Does T held old new v v' (Err fault) →
        Keeps old new v v'
    frees_in_vain old new v v' fault holds (inl freed) = syncs old new v v' (Err fault) holds freed
    frees_in_vain old new v v' fault holds (inr (middle, w, freed, tries)) =
        let first = syncs old middle v w (Ok tt) holds freed in
        chain old middle new v w v' first (tried_in_vain middle new w v' fault (opens old middle v w first) tries)

    pub made_in_vain : (old new : StoreState) (v v' : Volume) (fault : Fault) → Holds old v → MakesFreely Does T held old new v v' (Err fault) →
        Keeps old new v v'
    made_in_vain old new v v' fault holds (inl (tries, space)) = tried_in_vain old new v v' fault holds tries
    made_in_vain old new v v' fault holds (inr (other, middle, w, tries, space, freed)) =
        let first = tried_in_vain old middle v w other holds tries in
        chain old middle new v w v' first (frees_in_vain middle new w v' fault (opens old middle v w first) freed)
