-- What a crash leaves of volumes, and of the types that they need.
use Rattle.std.proofs.Common.{◌∙◌, ◌≡◌, ℕ, ◌<◌, List, Option, inl, inr, sym, ap, subst}
use Rattle.std.specs.List.{last_or}
use Rattle.xn_model.specs.Types.{Types}
use Rattle.xn_model.specs.Root.{has_type}
use Rattle.xn_model.specs.Images.{block_of}
use Rattle.xn_model.specs.Lives.{StoreState, life_at, bytes_of, on_disk, root_on_disk}
use Rattle.xn_model.specs.Calls.{latest, life_bytes}
use Rattle.xn_model.specs.Worlds.{World, Crash, Reply, Step, left, mounted_state}
use Rattle.xn_model.specs.Rules.{Holds, IsConsistent, IsKeptType}
use Rattle.xn_model.proofs.ForCallers.{on_disk_is, step_keeps, types_kept}
use Rattle.ffs_model.specs.Library.{library_layout, IsLibrary}
use Rattle.ffs_model.specs.Volumes.{VolumeKeeps, no_edits}
use Rattle.ffs_model.proofs.ForCallers.{crash_keeps, library_reads}
use Rattle.xn_state.specs.States.{own_types}
use Rattle.world.specs.Worlds.{WorldValue, world_with}
use Rattle.volume_pair.specs.Kept.{HasLibrary, Recovers, array_of}
use Rattle.volume_pair.specs.LibraryTypes.{library_types, IsRemounted}
use Rattle.volume_pair.proofs.LibraryTypes.{kept_type, library_type}

module _ (old new : WorldValue) (kept : List ℕ) (r : Reply) (h : Holds (world_with old)) (s : Step (world_with old) (Crash kept) r (world_with new)) (l : IsLibrary library_types) (has : HasLibrary (own_types old.state) old.state) where
  abbrev w : World
  w = world_with old

  abbrev image : List (List ℕ)
  image = left w kept

  state_is : new.state ≡ mounted_state s.0
  state_is = elim s.2 [ inl up ↦ ap (λ (x : World). x.state) up.1 | inr down' ↦ ap (λ (x : World). x.state) down'.1 ]

  image_is : new.image ≡ image
  image_is = elim s.2 [ inl up ↦ ap (λ (x : World). x.image) up.1 | inr down' ↦ ap (λ (x : World). x.image) down'.1 ]

  rules : IsConsistent (own_types (mounted_state s.0)) (mounted_state s.0)
  rules = subst (λ (x : StoreState). IsConsistent (own_types x) x) state_is (step_keeps w (Crash kept) r (world_with new) tt h s).state

  block0 : block_of new.image 0 ≡ block_of image 0
  block0 = ap (λ bs. block_of bs 0) image_is

  -- block 0's life was read off the image, whatever the types are
  newest : latest new.state.lives 0 ≡ block_of new.image 0
  newest =
      let root = rules.lives_sound.root in
      let only = s.1.only 0 root.life root.alive in
      ap (λ (x : StoreState). latest x.lives 0) state_is ∙ (ap life_bytes root.alive ∙ (ap bytes_of (ap (last_or root.life.durable) only.nothing ∙ only.durable) ∙ sym block0))

  disk : root_on_disk new.state.lives ≡ block_of new.image 0
  disk =
      let root = rules.lives_sound.root in
      ap (λ (x : StoreState). root_on_disk x.lives) state_is ∙ (on_disk_is s.0 root.life (on_disk (block_of image 0)) root.alive (s.1.only 0 root.life root.alive).durable ∙ sym block0)

  pub remounted : IsRemounted new
  remounted = record {
    rests = λ b life e. (s.1.only b life (ap (λ (x : StoreState). life_at x.lives b) (sym state_is) ∙ e)).nothing;
    newest = newest;
    types = λ t low high named.
        let k : IsKeptType w (world_with new) t = types_kept w (Crash kept) r (world_with new) tt h s t (ap (λ m. has_type m t) disk ∙ named) (has.library.installed t low high) in
        kept_type w (world_with new) t k (library_type (own_types old.state) l has.library t low high);
  }

  pub volumes_kept : (fs : ℕ) (array : ℕ → Option ℕ) → fs < 32 → VolumeKeeps (own_types old.state) library_layout fs array old.state → VolumeKeeps (own_types new.state) library_layout fs no_edits new.state
  volumes_kept fs array few v = crash_keeps w kept r (world_with new) library_layout (library_reads (own_types old.state) has.library) fs few array h v s

-- and once the library's types are installed anew
pub recovered : (T : Types) (old : StoreState) (T1 : Types) (mid : StoreState) (T2 : Types) (new : StoreState) → HasLibrary T2 new →
    ((fs : ℕ) (array : ℕ → Option ℕ) → fs < 32 → VolumeKeeps T library_layout fs array old → VolumeKeeps T1 library_layout fs no_edits mid) →
    ((fs : ℕ) → fs < 32 → VolumeKeeps T1 library_layout fs no_edits mid → VolumeKeeps T2 library_layout fs no_edits new) → Recovers T old T2 new
recovered T old T1 mid T2 new has crash installs = record {
  has = has;
  kept = λ fs volume k. record { library = has.library; few = k.few; keeps = installs fs k.few (crash fs (array_of volume) k.few k.keeps); mine = tt };
}
