-- A world that was just mounted gets the library's types.
use Rattle.std.proofs.Common.{◌≡◌, ◌∙◌, ◌+◌, ◌-◌, ◌<◌, ◌≤◌, ℕ, zero, suc, List, [], ◌∷◌, length, take, Option, Some, None, false, arith, refl, sym, ap, subst, IsTrue}
use Rattle.std.specs.List.{last_or}
use Rattle.std.proofs.lemmas.Bool.{false≢true}
use Rattle.xn_model.specs.Root.{has_type}
use Rattle.xn_model.specs.Images.{block_of}
use Rattle.xn_model.specs.Lives.{BlockState, Life, Lives, life_at, bytes_of}
use Rattle.xn_model.specs.Calls.{latest, life_bytes}
use Rattle.ffs_model.specs.Cuts.{Choice, seen, seen_at}
use Rattle.ffs_model.specs.Library.{library_layout}
use Rattle.ffs_model.specs.Volumes.{HasNoRoot, VolumeKeeps, no_edits}
use Rattle.world.specs.Worlds.{WorldValue}
use Rattle.xn_state.specs.States.{own_types}
use Rattle.volume_pair.specs.LibraryTypes.{IsLibraryType, IsRemounted}

-- a cut shows the newest bytes of a block of which nothing is pending
shows_newest : (lives : Lives) (k : Choice) (b : ℕ) → ((l : Life) → life_at lives b ≡ Some l → l.pending ≡ []) → seen lives k b ≡ latest lives b
shows_newest lives k b rests = go (life_at lives b) refl
  where
    none_taken : (n : ℕ) (xs : List BlockState) → xs ≡ [] → take n xs ≡ xs
    none_taken zero xs e = sym e
    none_taken (suc n) [] e = refl
    none_taken (suc n) (x ∷ xs) e = absurd (let long : length (x ∷ xs) ≡ 0 = ap length e in omega (arith, long))

    go : (o : Option Life) → life_at lives b ≡ o → seen_at k b o ≡ life_bytes o
    go None e = refl
    go (Some l) e = ap (λ xs. bytes_of (last_or l.durable xs)) (none_taken (k b) l.pending (rests l e))

-- the types by their places
pub by_place : (P : ℕ → Type 0) → ((i : ℕ) → i < 3 → P (3 + i)) → (t : ℕ) → 3 ≤ t → t ≤ 5 → P t
by_place P each t low high = let same : 3 + (t - 3) ≡ t = omega (arith, low) in subst P same (each (t - 3) (omega (arith, low, high)))

module _ (world : WorldValue) (is : IsRemounted world) (n : ℕ) (few : n ≤ 3) where
  -- those that block 0 names
  pub types_found : ((i : ℕ) → i < n → IsTrue (has_type (block_of world.image 0) (3 + i))) → (i : ℕ) → i < n → IsLibraryType (own_types world.state) (3 + i)
  types_found there i lt = is.types (3 + i) (omega arith) (omega (arith, lt, few)) (there i lt)

  -- without them there is no root
  pub no_root_yet : n < 3 → has_type (block_of world.image 0) (3 + n) ≡ false → (fs : ℕ) → VolumeKeeps (own_types world.state) library_layout fs no_edits world.state → HasNoRoot world.state.lives fs
  no_root_yet lt none fs v k r cut x =
      let shown : seen world.state.lives k 0 ≡ block_of world.image 0 = shows_newest world.state.lives k 0 (is.rests 0) ∙ is.newest in
      false≢true (sym none ∙ (ap (λ m. has_type m (3 + n)) (sym shown) ∙ (v.frame.typed k r cut x) (3 + n) (omega arith) (omega (arith, lt))))
