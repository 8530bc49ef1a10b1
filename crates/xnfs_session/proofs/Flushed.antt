-- The rules of volumes hold on over a flush.
use Rattle.std.proofs.Common.{◌≡◌, ◌<◌, ℕ, zero, suc, Bool, true, false, List, Result, Ok, sym, inl, inr, subst, IfOk, IfErr}
use Rattle.store_types.specs.declared.refusal.Refusal.{Refusal}
use Rattle.store_types.specs.declared.refusal.Refusal.TheVariants.{InFlight, NoMemory, Device}
use Rattle.xn_model.specs.Types.{Types}
use Rattle.xn_model.specs.Lives.{StoreState}
use Rattle.xn_model.specs.Calls.{begun_of, settled_of}
use Rattle.xn_model.proofs.ForCallers.{begun_keeps, settled_keeps}
use Rattle.xn_kernel.specs.Flushes.{wave_room}
use Rattle.xn_kernel.specs.FlushedStates.{EndsWrite, KeepsNewest, StateRefuses, StateWave, StateWaves}
use Rattle.flush_store.proofs.ForCallers.{always, refused_keep, waves_keep}
use Rattle.ffs_model.specs.Library.{library_layout}
use Rattle.ffs_model.proofs.ForCallers.{begin_cuts, begin_next, library_reads, none_later, settle_cuts, settle_next, volume_from}
use Rattle.ffs_lib.specs.Volumes.{IsVolume, edits_of}
use Rattle.ffs_lib.specs.declared.volume.Volume.{Volume}
use Rattle.xnfs_session.specs.Kept.{KeepsVolumes}

module _ (T : Types) where
  abbrev pub Follows : StoreState → StoreState → Type 0
  Follows old new = KeepsVolumes T old T new

  begun_follows : (old new : StoreState) (b : ℕ) (given : List ℕ × ℕ) → begun_of old b ≡ Ok (given, new) → Follows old new
  begun_follows old new b given e fs array few is v =
      let k = begun_keeps T old v.consistent b given new e in (
        is,
        volume_from T T library_layout (library_reads T is) fs few array old new k.consistent (none_later new.next old.next (begin_next old new b given e))
            (begin_cuts T old v.consistent fs b given new k.consistent e) v,
      )

  settled_follows : (old new : StoreState) (b : ℕ) (bytes : List ℕ) (done : ℕ × ℕ) → settled_of old b bytes ≡ Ok (done, new) → Follows old new
  settled_follows old new b bytes done e fs array few is v =
      let k = settled_keeps T old v.consistent b bytes done new e in (
        is,
        volume_from T T library_layout (library_reads T is) fs few array old new k.0 (none_later new.next old.next (settle_next old new b bytes done e))
            (settle_cuts T old v.consistent fs b bytes done new k.0 e) v,
      )

  follows_itself : (state : StoreState) → Follows state state
  follows_itself state fs array few is v = (is, v)

  follows_then : (a b c : StoreState) → Follows a b → Follows b c → Follows a c
  follows_then a b c f g fs array few is v = let one = f fs array few is v in g fs array few one.0 one.1

  ends_follow : (old new : StoreState) (b : ℕ) (given : List ℕ × ℕ) (is_durable : Bool) → EndsWrite b given is_durable old new → Follows old new
  ends_follow old new b given true e = settled_follows old new b given.0 (given.1, e.0) e.1
  ends_follow old new b given false e = elim e [
    | inl p ↦ settled_follows old new b p.0 (0, 0) p.1
    | inr same ↦ subst (Follows old) (sym same) (follows_itself old)
  ]

  wave_follows : (n room durable : ℕ) (old new : StoreState) → StateWave n room durable old new → Follows old new
  wave_follows zero room durable old new w = subst (Follows old) (sym w.1) (follows_itself old)
  wave_follows (suc n) room durable old new w =
      follows_then old w.begun new (begun_follows old w.begun w.block w.given w.begins)
      (follows_then w.begun w.mid new (wave_follows n w.left w.others w.begun w.mid w.rest) (ends_follow w.mid new w.block w.given w.is_durable w.ends))

  waves_follow : (n : ℕ) (old new : StoreState) → StateWaves n old new → Follows old new
  waves_follow zero old new e = subst (Follows old) (sym e) (follows_itself old)
  waves_follow (suc n) old new w = follows_then old w.0 new (wave_follows w.1.0 wave_room w.1.0 old w.0 w.1.2) (waves_follow n w.0 new w.2)

  refused_follows : (old new : StoreState) (refusal : Refusal) → StateRefuses old refusal new → Follows old new
  refused_follows old new InFlight r = subst (Follows old) (sym r.1) (follows_itself old)
  refused_follows old new NoMemory r = subst (Follows old) (sym r.1) (follows_itself old)
  refused_follows old new Device r =
      follows_then old r.1.1 new (waves_follow r.1.0 old r.1.1 r.1.2) (wave_follows r.1.3.0 wave_room r.1.3.1 r.1.1 new r.1.3.3)
  refused_follows old new _ r = absurd r

-- of a store that tells the types as before
pub volumes_are_kept : (T T' : Types) (old new : StoreState) (told : Result ℕ Refusal) → T' ≡ T → IfOk told (λ n. StateWaves n old new) →
    IfErr told (λ r. StateRefuses old r new) → KeepsVolumes T old T' new
volumes_are_kept T T' old new told same ok err =
    subst (λ U. KeepsVolumes T old U new) (sym same)
    (always told old new (Follows T old new) ok err (λ n w. waves_follow T n old new w) (λ r s. refused_follows T old new r s))

pub volume_is_kept : (T T' : Types) (old new : StoreState) (told : Result ℕ Refusal) (volume : Volume) → T' ≡ T → IfOk told (λ n. StateWaves n old new) →
    IfErr told (λ r. StateRefuses old r new) → volume.fs.number < 32 → IsVolume T old volume → IsVolume T' new volume
volume_is_kept T T' old new told volume same ok err few v =
    let k = volumes_are_kept T T' old new told same ok err volume.fs.number (edits_of volume.added) few v.library v.keeps in record { library = k.0; keeps = k.1 }

pub newest_is_kept : (T : Types) (old new : StoreState) (told : Result ℕ Refusal) (volume : Volume) → IfOk told (λ n. StateWaves n old new) →
    IfErr told (λ r. StateRefuses old r new) → IsVolume T old volume → KeepsNewest old.lives new.lives
newest_is_kept T old new told volume ok err v =
    always told old new (KeepsNewest old.lives new.lives) ok err
    (λ n w. (waves_keep T n old new v.keeps.consistent w).1) (λ r s. (refused_keep T r old new v.keeps.consistent s).1)
