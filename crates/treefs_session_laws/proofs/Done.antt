-- A call that is made until it has room is done once.
use Rattle.std.proofs.Common.{◌≡◌, ℕ, zero, suc, true, Option, None, Some, Result, Ok, Err, refl, sym, ◌∙◌, ap, inl, inr, subst}
use Rattle.std.proofs.lemmas.Option.{same_Some}
use Rattle.xn_model.specs.Lives.{StoreState}
use Rattle.xn_model.specs.Types.{Types}
use Rattle.treefs_model.specs.declared.fault.Fault.{Fault}
use Rattle.treefs_model.specs.declared.fault.Fault.TheVariants.{BadName, Cycle, Exists, Full, IsDir, Kernel, NoEntry, NoInode, NoSpace}
use Rattle.treefs_model.specs.declared.fault.Fault.TheVariants.{NotDir, NotEmpty, NotLink, TooLarge}
use Rattle.treefs.specs.declared.volume.Volume.{Volume}
use Rattle.treefs_laws.specs.Open.{IsOpen}
use Rattle.treefs_session.specs.Tries.{Tries, TriesOnce, as_answer, is_full}
use Rattle.treefs_session_laws.specs.Before.{IsAsBefore}
use Rattle.treefs_session_laws.proofs.Room.{before_same, before_then, room_before}

pub full_is : (fault : Fault) → is_full fault ≡ true → fault ≡ Full
full_is Full is = refl
full_is NoEntry is = absurd (cc is)
full_is Exists is = absurd (cc is)
full_is NotDir is = absurd (cc is)
full_is IsDir is = absurd (cc is)
full_is NotEmpty is = absurd (cc is)
full_is BadName is = absurd (cc is)
full_is NotLink is = absurd (cc is)
full_is TooLarge is = absurd (cc is)
full_is NoInode is = absurd (cc is)
full_is NoSpace is = absurd (cc is)
full_is Cycle is = absurd (cc is)
full_is (Kernel reason) is = absurd (cc is)

-- full: what a call that is full keeps
module _ {A : Type 0} (T : Types) (Does : StoreState → StoreState → Volume → Volume → Result A Fault → Type 0)
    (full : (before after : StoreState) (v v' : Volume) → IsOpen T before v → Does before after v v' (Err Full) → IsAsBefore T before after v v') where
  abbrev pub IsDone : StoreState → StoreState → Volume → Volume → A → Type 0
  IsDone old new volume volume' answer =
      (middle : StoreState) × (between : Volume) × IsAsBefore T old middle volume between × Does middle new between volume' (Ok answer)

  -- a try after which nothing is told
  pub again : (old new : StoreState) (volume volume' : Volume) → IsOpen T old volume → TriesOnce Does T old new volume volume' None →
      IsAsBefore T old new volume volume'
  again old new volume volume' is_open tried = elim tried [
    | inl done ↦ absurd (cc done.1)
    | inr refused ↦ elim refused.5 [
      | inl other ↦ absurd (cc (refused.6 ∙ ap as_answer other.1))
      | inr made ↦
          let at : Does old refused.1 volume refused.2 (Err Full) =
          subst (λ fault. Does old refused.1 volume refused.2 (Err fault)) (full_is refused.0 made.0) refused.4 in
          let first = full old refused.1 volume refused.2 is_open at in
          before_then T old refused.1 new volume refused.2 volume' first (room_before T refused.1 new refused.2 volume' made.1.0 first.is_open made.1.1)
    ]
  ]

  -- a try that is done
  done_at : (old new : StoreState) (volume volume' : Volume) (answer : A) → IsOpen T old volume →
      TriesOnce Does T old new volume volume' (Some (Ok answer)) → IsDone old new volume volume' answer
  done_at old new volume volume' answer is_open tried = elim tried [
    | inl done ↦ (old, volume, before_same T old volume is_open, subst (Does old new volume volume') (sym (same_Some (Ok answer) (Ok done.0) done.1)) done.2)
    | inr refused ↦ absurd (no_answer refused.3 refused.6)
  ]
    where
      no_answer : (left : Option Fault) → Some (Ok answer) ≡ as_answer left → ⊥
      no_answer None is = cc is
      no_answer (Some fault) is = cc is

  pub done_once : (left : ℕ) (old new : StoreState) (volume volume' : Volume) (answer : A) → IsOpen T old volume →
      Tries Does T left old new volume volume' (Ok answer) → IsDone old new volume volume' answer
  done_once zero old new volume volume' answer is_open tries = absurd (cc tries.0)
  done_once (suc left) old new volume volume' answer is_open tries = elim tries [
    | inl last ↦ done_at old new volume volume' answer is_open last
    | inr more ↦
        let first = again old more.0 volume more.1 is_open more.2 in
        let rest = done_once left more.0 new more.1 volume' answer first.is_open more.3 in
        (rest.0, rest.1, before_then T old more.0 rest.0 volume more.1 rest.1 first rest.2, rest.3)
  ]
