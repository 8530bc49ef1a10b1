-- What a volume is opened or made with.
use Rattle.std.proofs.Common.{◌≡◌, ℕ, ◌<◌, inl, inr, Bool, true, false, Option, Some, None, Ok, refl, arith, ◌==◌, eqb-true}
use Rattle.ffs_lib.proofs.Common.{IsConsistent, IsInodes, KeepsImage, Pending, StoreState, Types, VolumeKeeps, inode_block_in, latest, library_layout, make_from}
use Rattle.ffs_lib.proofs.Common.{make_in, no_edits, open_in, over_named, pending_of, sound_in, unless_over}
use Rattle.ffs_model.proofs.ForCallers.{library_reads, newest_types, no_root_keeps, nothing_pending, opened_keeps, rest_keeps}
use Rattle.ffs_lib.specs.Steps.{Stage}
use Rattle.ffs_lib.specs.Volumes.{MayOpen, NothingPending}
use Rattle.ffs_lib.proofs.NameCounts.{counted_good}
use Rattle.ffs_lib.proofs.Owners.{block_from, passed, then_first}
use Rattle.ffs_lib.proofs.Tops.{bare_from, no_pointers, rootless_slot}

none_over : (o : Option ℕ) → Ok tt ≡ unless_over o → o ≡ None
none_over None e = refl
none_over (Some n) e = absurd (cc e)

-- Nothing is pending, there is a first block of inodes, and no inode has more names than links.
pub record OpenFound (state : StoreState) (fs : ℕ) : Type 0 where
  pub idle : pending_of state fs ≡ 0
  pub block : ℕ
  pub inodes : IsInodes library_layout (latest state.lives) fs 0 block
  pub over : over_named (latest state.lives) fs ≡ None

pub open_found : (state : StoreState) (fs : ℕ) → Ok tt ≡ open_in state fs → OpenFound state fs
open_found state fs e =
    let content = latest state.lives in
    let x = then_first (pending_of state fs == 0) (sound_in content fs) Pending tt e in
    let r = passed (inode_block_in content fs 0) (λ block. unless_over (over_named content fs)) tt x.1 in
    record {
      idle = eqb-true (pending_of state fs) 0 x.0;
      block = r.0;
      inodes = block_from content fs 0 r.0 (omega arith) r.1;
      over = none_over (over_named content fs) r.2;
    }

pub make_found : (state : StoreState) (fs : ℕ) (begun : Bool) → Ok begun ≡ make_from state fs → (pending_of state fs ≡ 0) × (Ok begun ≡ make_in (latest state.lives) fs)
make_found state fs begun e =
    let x = then_first (pending_of state fs == 0) (make_in (latest state.lives) fs) Pending begun e in
    (eqb-true (pending_of state fs) 0 x.0, x.1)

module _ (T : Types) (state : StoreState) (h : IsConsistent T state) (fs : ℕ) (few : fs < 32) (may : MayOpen T state fs) where
  begins : pending_of state fs ≡ 0 → (NothingPending state.lives → KeepsImage library_layout (latest state.lives) fs) → VolumeKeeps T library_layout fs no_edits state
  begins idle image = elim may.known [
    | inl rests ↦ rest_keeps T library_layout (library_reads T may.library) state h fs few rests (image rests)
    | inr known ↦ opened_keeps T library_layout fs known.edits state known.keeps (nothing_pending T library_layout fs known.edits state known.keeps idle)
  ]

  pub opened : Ok tt ≡ open_in state fs → VolumeKeeps T library_layout fs no_edits state
  opened e =
      let found = open_found state fs e in
      begins found.idle (λ rests. record {
        links = counted_good (latest state.lives) fs found.over;
        first = λ i c x. (found.block, found.inodes);
        typed = λ r x. newest_types T state h refl (library_reads T may.library).installed;
      })

  makeable : (begun : Bool) → Ok begun ≡ make_from state fs → VolumeKeeps T library_layout fs no_edits state
  makeable begun e = let found = make_found state fs begun e in begins found.0 (λ rests. image begun found.1)
    where
      image : (begun : Bool) → Ok begun ≡ make_in (latest state.lives) fs → KeepsImage library_layout (latest state.lives) fs
      image false e = no_root_keeps library_layout (latest state.lives) fs (rootless_slot (latest state.lives) fs e)
      image true e =
          let bare = bare_from (latest state.lives) fs e in
          record {
            links = λ n y some r. absurd (no_pointers (latest state.lives) fs bare r.index r.block r.inodes);
            first = λ i c x. absurd (no_pointers (latest state.lives) fs bare i c x);
            typed = λ r x. newest_types T state h refl (library_reads T may.library).installed;
          }

  pub make_stage : (begun : Bool) → Ok begun ≡ make_from state fs → Stage T fs no_edits state
  make_stage begun e = record { library = may.library; few = few; keeps = makeable begun e }
