-- What a close and a sync leave: the last part of each writes all that is pending.
use Rattle.std.proofs.Common.{◌≡◌, ℕ, zero, suc, List, Option, None, Some, Result, Ok, Err, inl, inr, refl, subst, sym, ◌∙◌}
use Rattle.std.specs.Prelude.{MatchResult, ⊤}
use Rattle.std.proofs.lemmas.Option.{none-some, same_Some}
use Rattle.flush_store.specs.Written.{AllWritten}
use Rattle.xn_model.specs.Lives.{StoreState}
use Rattle.xn_model.specs.Types.{Types}
use Rattle.treefs_model.specs.declared.fault.Fault.{Fault}
use Rattle.treefs_model.specs.declared.fault.Fault.TheVariants.{Full, Kernel}
use Rattle.store_types.specs.declared.refusal.Refusal.TheVariants.{NoMemory}
use Rattle.treefs.specs.declared.volume.Volume.{Volume}
use Rattle.treefs_mounts.specs.Closing.{CloseDoes}
use Rattle.treefs_mounts.specs.Flushing.{FlushesVolume}
use Rattle.treefs_session.specs.Freeing.{Syncs}
use Rattle.treefs_session.specs.Opening.{Closes}
use Rattle.treefs_session.specs.Tries.{Tries, TriesOnce, as_answer, most_tries}

ok_is_no_fault : (done : Unit {0}) (fault : Fault) (r : Result (Unit {0}) Fault) → r ≡ Ok done → r ≡ Err fault → ⊥
ok_is_no_fault done fault r ok err = subst (λ (s : Result (Unit {0}) Fault). MatchResult s (λ _. ⊤) (λ _. ⊥)) (sym ok ∙ err) tt

nothing_is_told : (done : Unit {0}) (left : Option Fault) (told : Option (Result (Unit {0}) Fault)) → told ≡ Some (Ok done) → told ≡ as_answer left → ⊥
nothing_is_told done None told is e = none-some (Ok done) (sym e ∙ is)
nothing_is_told done (Some fault) told is e = ok_is_no_fault done fault (Ok done) refl (same_Some (Ok done) (Err fault) (sym is ∙ e))

module _ (T : Types) where
  -- by a call of which each success writes all
  module _ (Does : StoreState → StoreState → Volume → Volume → Result (Unit {0}) Fault → Type 0)
      (writes : (done : Unit {0}) (old new : StoreState) (volume volume' : Volume) → Does old new volume volume' (Ok done) → AllWritten new.lives) where
    once : (done : Unit {0}) (old new : StoreState) (volume volume' : Volume) → TriesOnce Does T old new volume volume' (Some (Ok done)) → AllWritten new.lives
    once done old new volume volume' tried = elim tried [
      | inl made ↦ writes made.0 old new volume volume' made.2
      | inr refused ↦ absurd (nothing_is_told done refused.3 (Some (Ok done)) refl refused.6)
    ]

    tries : (left : ℕ) (done : Unit {0}) (old new : StoreState) (volume volume' : Volume) → Tries Does T left old new volume volume' (Ok done) → AllWritten new.lives
    tries zero done old new volume volume' tried = absurd (ok_is_no_fault done Full (Ok done) refl tried.0)
    tries (suc left) done old new volume volume' tried = elim tried [
      | inl last ↦ once done old new volume volume' last
      | inr more ↦ tries left done more.0 new more.1 volume' more.3
    ]

  closing : (done : Unit {0}) (old new : StoreState) (volume volume' : Volume) → CloseDoes T old new volume volume' (Ok done) → AllWritten new.lives
  closing done old new volume volume' closes = elim closes [
    | inl none ↦ absurd none
    | inr reaped ↦ elim reaped.3 [
      | inl none ↦ absurd none
      | inr written ↦ elim written.2 [
        | inl none ↦ absurd none
        | inr marked ↦ marked.2.2
      ]
    ]
  ]

  flushing : (done : Unit {0}) (old new : StoreState) (volume volume' : Volume) → FlushesVolume T old new volume volume' (Ok done) → AllWritten new.lives
  flushing done old new volume volume' flushes = elim flushes [
    | inl none ↦ absurd none
    | inr timed ↦ timed.2.2
  ]

  pub closes_write : (old new : StoreState) (volume : Volume) → Closes T old new volume → AllWritten new.lives
  closes_write old new volume closes = tries (CloseDoes T) closing most_tries tt old new volume closes.0 closes.1

  pub syncs_write : (held : List ℕ) (old new : StoreState) (volume volume' : Volume) → Syncs T held old new volume volume' (Ok tt) → AllWritten new.lives
  syncs_write held old new volume volume' syncs = elim syncs [
    | inl wants ↦ absurd (ok_is_no_fault tt (Kernel NoMemory) (Ok tt) refl wants.0)
    | inr freed ↦ elim freed [
      | inl none ↦ absurd none
      | inr reaped ↦ tries (FlushesVolume T) flushing most_tries tt reaped.0 new reaped.1 volume' reaped.3
    ]
  ]
