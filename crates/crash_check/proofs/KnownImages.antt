-- The kernel over lanes that hold an image of which all is known.
use Rattle.std.proofs.Common.{◌≡◌, ◌∙◌, ℕ, zero, suc, ◌+◌, ◌-◌, ◌*◌, ◌/◌, ◌<◌, ◌≤◌, List, [], ◌∷◌, length, take, drop, Option, Some, slice_get, arith, ap, sym, subst}
use Rattle.std.specs.List.{AllZip}
use Rattle.std.specs.Simd.{first_chunks}
use Rattle.std.proofs.lemmas.Grind.{common_steps}
use Rattle.std.proofs.lemmas.List.{drop-drop, length-drop}
use Rattle.std.proofs.lemmas.Option.{same_Some}
use Rattle.disk.specs.Images.{HoldsBytes, block_of_image}
use Rattle.xn_model.specs.Images.{block_of, blocks_in}
use Rattle.xn_model.specs.Lives.{StoreState}
use Rattle.xn_model.specs.Lanes.{FitLives, HoldsBlock, HoldImage}
use Rattle.xn_model.specs.Mounts.{recovered}
use Rattle.xn_model.proofs.ForCallers.{built_ins_in, lanes_mounted, recovered_is}
use Rattle.image_model.specs.Report.{IsSoundImage}
use Rattle.templates.specs.Language.{language, types_of_image}
use Rattle.crash_check.specs.Mounts.{state_of}

first_block : (image : List ℕ) → 512 ≤ length image → block_of_image image 0 ≡ take 512 image
first_block image h = grind (arith, common_steps)

long : (k : ℕ) → 512 * k + 512 - 512 * k ≡ 512
long k = omega arith

other_block : (image : List ℕ) (k : ℕ) → block_of_image image (suc k) ≡ block_of_image (drop 512 image) k
other_block image k =
    let from : 512 + 512 * k ≡ 512 * suc k = omega arith in
    ap (λ n. take n (drop (512 * suc k) image)) (long (suc k) ∙ sym (long k))
    ∙ ap (take (512 * k + 512 - 512 * k)) (ap (λ n. drop n image) (sym from) ∙ sym (drop-drop (512 * k) 512 image))

module _ {L : Type 0} (bytes_of : L → List ℕ) where
  abbrev HasBlock : List (Option L) → List ℕ → ℕ → Type 0
  HasBlock places image k = (lane : L) × (slice_get places k ≡ Some (Some lane)) × (bytes_of lane ≡ block_of_image image k)

  hold_chunks : (places : List (Option L)) (image : List ℕ) (n : ℕ) → length places ≡ n → length image ≡ 512 * n
      → ((k : ℕ) → k < n → HasBlock places image k) → AllZip (HoldsBlock bytes_of) places (first_chunks 512 n image)
  hold_chunks [] image zero count whole each = tt
  hold_chunks [] image (suc n) count whole each = absurd (omega arith)
  hold_chunks (p ∷ places) image zero count whole each = absurd (omega arith)
  hold_chunks (p ∷ places) image (suc n) count whole each =
      let first = each 0 (omega arith) in
      let here : HoldsBlock bytes_of (Some first.0) (take 512 image) = first.2 ∙ first_block image (omega arith) in
      let rest : length (drop 512 image) ≡ 512 * n = omega (arith, length-drop 512 image) in (
        subst (λ o. HoldsBlock bytes_of o (take 512 image)) (sym (same_Some p (Some first.0) first.1)) here,
        hold_chunks places (drop 512 image) n (omega arith) rest (λ k lt.
            let q = each (suc k) (omega arith) in
            (q.0, q.1, q.2 ∙ other_block image k)),
      )

  pub hold_image : (places : List (Option L)) (image : List ℕ) → HoldsBytes bytes_of places image → HoldImage bytes_of places (blocks_in image)
  hold_image places image held =
      let whole = held.whole in
      let count : length places ≡ length image / 512 = omega arith in
      hold_chunks places image (length image / 512) count (omega arith) (λ k lt. held.each k (omega arith))

  pub known_fit : (places : List (Option L)) (image : List ℕ) (state : StoreState) → IsSoundImage (types_of_image (blocks_in image)) image
      → state ≡ state_of (blocks_in image) → HoldsBytes bytes_of places image → FitLives bytes_of places state.lives
  known_fit places image state sound known held =
      let blocks = blocks_in image in
      let T = types_of_image blocks in
      subst (λ (s : StoreState). FitLives bytes_of places s.lives) (sym known)
      (lanes_mounted bytes_of places T blocks (recovered T blocks) (recovered_is T (built_ins_in language (block_of blocks)) blocks sound.blocks)
      (hold_image places image held))
