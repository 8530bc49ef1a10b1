-- What a file system reads goes on over a flush.
use mathlib.Core.Path.{fun_ext}
use Rattle.std.proofs.Common.{◌≡◌, ◌≢◌, ℕ, not, List, [], Option, None, Some, refl, sym, ◌∙◌, ap, subst, if◌then◌else◌}
use Rattle.std.specs.Prelude.{◌&&◌, ◌==◌, All}
use Rattle.xn_kernel.specs.FlushedStates.{GoesOn, KeepsNewest, StateRefuses, StateWaves}
use Rattle.store_types.specs.declared.refusal.Refusal.{Refusal}
use Rattle.flush_store.proofs.ForCallers.{refused_keep, waves_keep}
use Rattle.xn_model.specs.Calls.{life_bytes, root_of}
use Rattle.xn_model.specs.Lives.{Life, StoreState, current, is_dropped, is_for, life_at}
use Rattle.xn_model.specs.Root.{slot}
use Rattle.xn_model.specs.Rules.{IsConsistent}
use Rattle.xn_model.specs.Types.{Types}
use Rattle.treefs_model.specs.Edited.{type_in}
use Rattle.treefs_model.specs.Files.{Files}
use Rattle.treefs_model.specs.Reading.{files_of}
use Rattle.treefs_lookup.specs.Readable.{readable}
use Rattle.treefs.specs.declared.volume.Volume.{Volume}
use Rattle.treefs_values.proofs.ForCallers.{kinds_are, may_read, readable_is}
use Rattle.treefs_values.specs.Kinds.{kinds}
use Rattle.treefs_values.specs.Volumes.{IsVolume}
use Rattle.treefs_laws.specs.Kept.{files_in}
use Rattle.treefs_laws.specs.Open.{IsOpen}
use Rattle.treefs_laws.specs.Seen.{seen_files}
use Rattle.treefs_laws.proofs.ForCallers.{read_keeps}
use Rattle.treefs_session_laws.specs.Before.{IsAsBefore}

-- Of one block

module _ (fs : ℕ) where
  abbrev shown : Option Life → List ℕ
  shown o = if may_read fs o then life_bytes o else []

  abbrev typed : Option Life → ℕ
  typed o = if may_read fs o then type_in o else 0

  shown_on : (o n : Option Life) → GoesOn o n → shown n ≡ shown o
  shown_on None n goes = ap shown goes
  shown_on (Some l) None goes = sym (ap (λ d. if not d && is_for fs l.fs then current l else []) goes)
  shown_on (Some l) (Some m) goes = λ j. if not (is_dropped (goes.2 j)) && is_for fs (goes.0 j) then goes.3 j else []

  typed_on : (o n : Option Life) → GoesOn o n → typed n ≡ typed o
  typed_on None n goes = ap typed goes
  typed_on (Some l) None goes = sym (ap (λ d. if not d && is_for fs l.fs then l.ty else 0) goes)
  typed_on (Some l) (Some m) goes = λ j. if not (is_dropped (goes.2 j)) && is_for fs (goes.0 j) then goes.1 j else 0

-- a block that is in use goes on with its bytes
bytes_on : (o n : Option Life) (l : Life) → GoesOn o n → n ≡ Some l → life_bytes n ≡ life_bytes o
bytes_on None n l goes is = ap life_bytes goes
bytes_on (Some k) None l goes is = absurd (cc is)
bytes_on (Some k) (Some m) l goes is = goes.3

-- Of a state

module _ (T : Types) (old new : StoreState) (keeps : KeepsNewest old.lives new.lives) (sound : IsConsistent T new) (fs : ℕ) where
  reads_on : readable new fs ≡ readable old fs
  reads_on = fun_ext (λ b. readable_is new fs b ∙ (shown_on fs (life_at old.lives b) (life_at new.lives b) (keeps b) ∙ sym (readable_is old fs b)))

  kinds_on : kinds new fs ≡ kinds old fs
  kinds_on = fun_ext (λ b. kinds_are new fs b ∙ (typed_on fs (life_at old.lives b) (life_at new.lives b) (keeps b) ∙ sym (kinds_are old fs b)))

  root_on : root_of new fs ≡ root_of old fs
  root_on = ap (λ m. if (slot m fs).0 == 0 then None else Some (slot m fs).0)
      (bytes_on (life_at old.lives 0) (life_at new.lives 0) sound.lives_sound.root.life (keeps 0) sound.lives_sound.root.alive)

-- Of a volume

module _ (T : Types) (old new : StoreState) (volume : Volume) (is_open : IsOpen T old volume) (keeps : KeepsNewest old.lives new.lives)
    (sound : IsConsistent T new) where
  abbrev fs : ℕ
  fs = volume.tree.fs.number

  files_on : files_in new volume ≡ files_in old volume
  files_on = ap (λ r. seen_files volume.memory.touched (files_of r volume.tree.top)) (reads_on T old new keeps sound fs)

  volume_on : IsVolume volume.tree.node_type volume.tree.inode_type (kinds new fs) (readable new fs) volume.tree.top
  volume_on =
      subst (λ r. IsVolume volume.tree.node_type volume.tree.inode_type (kinds new fs) r volume.tree.top) (sym (reads_on T old new keeps sound fs))
      (subst (λ k. IsVolume volume.tree.node_type volume.tree.inode_type k (readable old fs) volume.tree.top) (sym (kinds_on T old new keeps sound fs))
      is_open.kept.bytes)

  stays_open : IsAsBefore T old new volume volume
  stays_open = record {
    is_open = record {
      kept = record { store = sound; bytes = volume_on; session = is_open.kept.session };
      few = is_open.few;
      tree = is_open.tree;
      short = is_open.short;
      root = root_on T old new keeps sound fs ∙ is_open.root;
      touched = subst (λ (files : Files). All (λ touch. files touch.number ≢ None) volume.memory.touched) (sym files_on) is_open.touched;
    };
    files = files_on;
    tree = refl;
    clock = refl;
    unnamed = read_keeps T old new volume is_open (kinds_on T old new keeps sound fs) (reads_on T old new keeps sound fs);
  }

pub waves_before : (T : Types) (old new : StoreState) (volume : Volume) (waves : ℕ) → IsOpen T old volume → StateWaves waves old new → IsAsBefore T old new volume volume
waves_before T old new volume waves is_open flushed =
    let kept = waves_keep T waves old new is_open.kept.store flushed in stays_open T old new volume is_open kept.1 kept.0

-- so it is where a flush is refused, or stops
pub stopped_before : (T : Types) (old new : StoreState) (volume : Volume) (refusal : Refusal) → IsOpen T old volume → StateRefuses old refusal new →
    IsAsBefore T old new volume volume
stopped_before T old new volume refusal is_open refused =
    let kept = refused_keep T refusal old new is_open.kept.store refused in stays_open T old new volume is_open kept.1 kept.0
