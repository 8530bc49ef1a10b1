-- Laws of the blocks of an image, for callers too.
use Rattle.std.proofs.Common.{◌≡◌, ℕ, ◌+◌, ◌-◌, ◌*◌, ◌/◌, ◌%◌, ◌<◌, ◌≤◌, List, ◌++◌, length, take, drop, get_or, arith, sym, ap, ◌∙◌}
use Rattle.std.proofs.lemmas.Grind.{common_steps}
use Rattle.std.proofs.lemmas.List.{ext_get_or, get_or-drop, get_or-take, take-append-drop}
use Rattle.std.proofs.lemmas.List.FromFn.{length-map-range_with_len}
use Rattle.disk.specs.Images.{block_of_image, image_blocks}

pub block_at-append_front : (xs ys : List ℕ) (k : ℕ) → 512 * k + 512 ≤ length xs → block_of_image (xs ++ ys) k ≡ block_of_image xs k
block_at-append_front xs ys k h = grind (arith, common_steps)

pub block_at-append_last : (xs ys : List ℕ) (k : ℕ) → length xs ≡ 512 * k → length ys ≡ 512 → block_of_image (xs ++ ys) k ≡ ys
block_at-append_last xs ys k h i = grind (arith, common_steps)

pub block_at-take : (image : List ℕ) (n k : ℕ) → 512 * k + 512 ≤ n → n ≤ length image → block_of_image (take n image) k ≡ block_of_image image k
block_at-take image n k h long =
    sym (block_at-append_front (take n image) (drop n image) k (grind (arith, common_steps))) ∙ ap (λ xs. block_of_image xs k) (take-append-drop n image)

-- a byte of an image stands in its block
pub get_or-block_at : (image : List ℕ) (k i : ℕ) → i < 512 → get_or (block_of_image image k) i 0 ≡ get_or image (512 * k + i) 0
get_or-block_at image k i h =
    get_or-take (512 * k + 512 - 512 * k) (drop (512 * k) image) i 0 (omega arith) ∙ get_or-drop (512 * k) image i 0

-- an image of whole blocks is known by its blocks
pub block_at-same : (a b : List ℕ) (n : ℕ) → length a ≡ 512 * n → length b ≡ 512 * n
    → ((k : ℕ) → k < n → block_of_image a k ≡ block_of_image b k) → a ≡ b
block_at-same a b n la lb same = ext_get_or 0 a b (la ∙ sym lb) (λ i h.
    let whole : 512 * (i / 512) + i % 512 ≡ i = omega arith in
    let rest : i % 512 < 512 = omega arith in
    let within : i / 512 < n = omega arith in
    ap (λ j. get_or a j 0) (sym whole) ∙ (sym (get_or-block_at a (i / 512) (i % 512) rest)
    ∙ (ap (λ xs. get_or xs (i % 512) 0) (same (i / 512) within)
    ∙ (get_or-block_at b (i / 512) (i % 512) rest ∙ ap (λ j. get_or b j 0) whole))))

-- the list of the blocks, place by place
pub length-blocks_of : (image : List ℕ) → length (image_blocks image) ≡ length image / 512
unfolding image_blocks
length-blocks_of image = length-map-range_with_len (block_of_image image) 0 (length image / 512)
