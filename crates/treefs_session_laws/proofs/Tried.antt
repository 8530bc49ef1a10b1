-- A call that is made until something is told keeps what it keeps where it is full, or finds no space, and what making room keeps.
use Rattle.std.proofs.Common.{◌≡◌, ◌⊎◌, ℕ, zero, suc, Bool, true, Option, None, Some, Result, Ok, Err, sym, ◌∙◌, ap, inl, inr, subst}
use Rattle.std.proofs.lemmas.Option.{same_Some}
use Rattle.xn_model.specs.Lives.{StoreState}
use Rattle.xn_model.specs.Types.{Types}
use Rattle.treefs_model.specs.declared.fault.Fault.{Fault}
use Rattle.treefs.specs.declared.volume.Volume.{Volume}
use Rattle.treefs_session.specs.Freeing.{lacks_space}
use Rattle.treefs_session.specs.Tries.{MakesRoom, RoomAfter, Tries, TriesOnce, as_answer, is_full}

-- a call that is made again, or behind which orphans are freed
abbrev pub IsAgain : Fault → Type 0
IsAgain fault = (is_full fault ≡ true) ⊎ (lacks_space fault ≡ true)

-- Holds: of a volume between calls; Keeps: of two states of it, one before the other
module _ (T : Types) (Holds : StoreState → Volume → Type 0) (Keeps : StoreState → StoreState → Volume → Volume → Type 0)
    (opens : (old new : StoreState) (v v' : Volume) → Keeps old new v v' → Holds new v')
    (same : (s : StoreState) (v : Volume) → Holds s v → Keeps s s v v)
    (chain : (old middle new : StoreState) (v w x : Volume) → Keeps old middle v w → Keeps middle new w x → Keeps old new v x)
    (room : (old new : StoreState) (v v' : Volume) (result : Result Bool Fault) → Holds old v → MakesRoom T old new v v' result → Keeps old new v v')
    {A : Type 0} (Does : StoreState → StoreState → Volume → Volume → Result A Fault → Type 0) where
  after_refusal : (old middle new : StoreState) (v w x : Volume) (fault : Fault) (left : Option Fault) → Keeps old middle v w →
      RoomAfter T middle new w x fault left → Keeps old new v x
  after_refusal old middle new v w x fault left first (inl (other, told, still, stays)) =
      subst (λ y. Keeps old new v y) (sym stays) (subst (λ s. Keeps old s v w) (sym still) first)
  after_refusal old middle new v w x fault left first (inr (full, (result, makes, told))) =
      chain old middle new v w x first (room middle new w x result (opens old middle v w first) makes)

  -- told: of a call of which every answer keeps it
  module _ (does : (old new : StoreState) (v v' : Volume) (result : Result A Fault) → Holds old v → Does old new v v' result → Keeps old new v v') where
    one_try : (old new : StoreState) (v v' : Volume) (told : Option (Result A Fault)) → Holds old v → TriesOnce Does T old new v v' told → Keeps old new v v'
    one_try old new v v' told is_open (inl (answer, is, done)) = does old new v v' (Ok answer) is_open done
    one_try old new v v' told is_open (inr (fault, middle, w, left, refused, after, is)) =
        after_refusal old middle new v w v' fault left (does old middle v w (Err fault) is_open refused) after

    pub tries_keep : (left : ℕ) (old new : StoreState) (v v' : Volume) (result : Result A Fault) → Holds old v → Tries Does T left old new v v' result →
        Keeps old new v v'
    tries_keep zero old new v v' result is_open (told, still, stays) =
        subst (λ y. Keeps old new v y) (sym stays) (subst (λ s. Keeps old s v v) (sym still) (same old v is_open))
    tries_keep (suc left) old new v v' result is_open (inl tried) = one_try old new v v' (Some result) is_open tried
    tries_keep (suc left) old new v v' result is_open (inr (middle, w, tried, rest)) =
        let first = one_try old middle v w None is_open tried in
        chain old middle new v w v' first (tries_keep left middle new w v' result (opens old middle v w first) rest)

  -- told: of one that keeps it where it is made again
  module _ (refused : (old new : StoreState) (v v' : Volume) (fault : Fault) → Holds old v → IsAgain fault → Does old new v v' (Err fault) →
      Keeps old new v v') where
    again : (old new : StoreState) (v v' : Volume) → Holds old v → TriesOnce Does T old new v v' None → Keeps old new v v'
    again old new v v' is_open (inl (answer, is, done)) = absurd (cc is)
    again old new v v' is_open (inr (fault, middle, w, left, does, inl (other, told, still, stays), is)) = absurd (cc (is ∙ ap as_answer told))
    again old new v v' is_open (inr (fault, middle, w, left, does, inr (full, (result, makes, told)), is)) =
        after_refusal old middle new v w v' fault left (refused old middle v w fault is_open (inl full) does) (inr (full, (result, makes, told)))

    -- the last of the calls, which is done
    abbrev pub IsLast : StoreState → StoreState → Volume → Volume → A → Type 0
    IsLast old new v v' answer = (middle : StoreState) × (w : Volume) × Keeps old middle v w × Does middle new w v' (Ok answer)

    no_answer : (answer : A) (left : Option Fault) → ◌≡◌ {A = Option (Result A Fault)} (Some (Ok answer)) (as_answer left) → ⊥
    no_answer answer None is = cc is
    no_answer answer (Some fault) is = cc is

    pub tries_end : (left : ℕ) (old new : StoreState) (v v' : Volume) (answer : A) → Holds old v → Tries Does T left old new v v' (Ok answer) →
        IsLast old new v v' answer
    tries_end zero old new v v' answer is_open (told, still, stays) = absurd (cc told)
    tries_end (suc left) old new v v' answer is_open (inl (inl (x, is, done))) =
        (old, v, same old v is_open, subst (Does old new v v') (sym (same_Some (Ok answer) (Ok x) is)) done)
    tries_end (suc left) old new v v' answer is_open (inl (inr (fault, middle, w, told, does, after, is))) = absurd (no_answer answer told is)
    tries_end (suc left) old new v v' answer is_open (inr (middle, w, tried, rest)) =
        let first = again old middle v w is_open tried in
        let last = tries_end left middle new w v' answer (opens old middle v w first) rest in
        (last.0, last.1, chain old middle last.0 v w last.1 first last.2, last.3)

    -- and of one that keeps it where it answers this
    module _ (Told : Fault → Type 0) (so : (old new : StoreState) (v v' : Volume) (fault : Fault) → Holds old v → Told fault → Does old new v v' (Err fault) →
        Keeps old new v v') where
      refused_at : (old new : StoreState) (v v' : Volume) (fault : Fault) → Holds old v → Told fault →
          TriesOnce Does T old new v v' (Some (Err fault)) → Keeps old new v v'
      refused_at old new v v' fault is_open told (inl (answer, is, done)) = absurd (cc is)
      refused_at old new v v' fault is_open told (inr (g, middle, w, left, does, after, is)) = by after
        where
          here : (left : Option Fault) → ◌≡◌ {A = Option (Result A Fault)} (Some (Err fault)) (as_answer left) → left ≡ Some g → Told g
          here None is answers = absurd (cc answers)
          here (Some h) is answers = subst Told (same_fault fault h (same_Some (Err fault) (Err h) is) ∙ same_Some h g answers) told
            where
              same_fault : (f g : Fault) → ◌≡◌ {A = Result A Fault} (Err f) (Err g) → f ≡ g
              same_fault f g e = cc e

          by : RoomAfter T middle new w v' g left → Keeps old new v v'
          by (inl (other, answers, still, stays)) =
              after_refusal old middle new v w v' g left (so old middle v w g is_open (here left is answers) does) (inl (other, answers, still, stays))
          by (inr (full, made)) = after_refusal old middle new v w v' g left (refused old middle v w g is_open (inl full) does) (inr (full, made))

      pub tries_told : (left : ℕ) (old new : StoreState) (v v' : Volume) (fault : Fault) → Holds old v → Told fault → Tries Does T left old new v v' (Err fault) →
          Keeps old new v v'
      tries_told zero old new v v' fault is_open told (answers, still, stays) =
          subst (λ y. Keeps old new v y) (sym stays) (subst (λ s. Keeps old s v v) (sym still) (same old v is_open))
      tries_told (suc left) old new v v' fault is_open told (inl tried) = refused_at old new v v' fault is_open told tried
      tries_told (suc left) old new v v' fault is_open told (inr (middle, w, tried, rest)) =
          let first = again old middle v w is_open tried in
          chain old middle new v w v' first (tries_told left middle new w v' fault (opens old middle v w first) told rest)

    -- one that is refused for want of space
    pub tries_lack : (left : ℕ) (old new : StoreState) (v v' : Volume) (fault : Fault) → Holds old v → lacks_space fault ≡ true →
        Tries Does T left old new v v' (Err fault) → Keeps old new v v'
    tries_lack left old new v v' fault is_open space tries = tries_told (λ f. lacks_space f ≡ true)
        (λ old new v v' f is_open space does. refused old new v v' f is_open (inr space) does) left old new v v' fault is_open space tries

  -- told: of one that keeps it where it is refused
  module _ (refused : (old new : StoreState) (v v' : Volume) (fault : Fault) → Holds old v → Does old new v v' (Err fault) → Keeps old new v v') where
    once_refused : (old new : StoreState) (v v' : Volume) (told : Option (Result A Fault)) → Holds old v → ((answer : A) → told ≡ Some (Ok answer) → ⊥) →
        TriesOnce Does T old new v v' told → Keeps old new v v'
    once_refused old new v v' told holds none (inl (answer, is, done)) = absurd (none answer is)
    once_refused old new v v' told holds none (inr (fault, middle, w, left, does, after, is)) =
        after_refusal old middle new v w v' fault left (refused old middle v w fault holds does) after

    pub tries_refused : (left : ℕ) (old new : StoreState) (v v' : Volume) (fault : Fault) → Holds old v → Tries Does T left old new v v' (Err fault) →
        Keeps old new v v'
    tries_refused zero old new v v' fault holds (told, still, stays) =
        subst (λ y. Keeps old new v y) (sym stays) (subst (λ s. Keeps old s v v) (sym still) (same old v holds))
    tries_refused (suc left) old new v v' fault holds (inl tried) = once_refused old new v v' (Some (Err fault)) holds (λ answer is. cc is) tried
    tries_refused (suc left) old new v v' fault holds (inr (middle, w, tried, rest)) =
        let first = once_refused old middle v w None holds (λ answer is. cc is) tried in
        chain old middle new v w v' first (tries_refused left middle new w v' fault (opens old middle v w first) rest)
