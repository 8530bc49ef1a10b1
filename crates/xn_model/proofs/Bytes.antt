-- Blocks one after another.
use Rattle.std.proofs.Common.{◌≡◌, ℕ, suc, ◌+◌, ◌*◌, ◌/◌, List, [], ◌∷◌, ◌++◌, length, take, drop, refl, ◌∙◌, ap, arith, length-append}
use Rattle.std.specs.Prelude.{All}
use Rattle.std.specs.Simd.{first_chunks}
use Rattle.std.proofs.lemmas.List.{take_all, take-append-le}
use Rattle.std.proofs.Math.Seq.{drop-append-add}
use Rattle.xn_model.specs.Images.{joined, blocks_in}

-- each block has 512 bytes
abbrev AreBlocks : List (List ℕ) → Type 0
AreBlocks blocks = All (λ block. length block ≡ 512) blocks

rest : (block : List ℕ) (blocks : List (List ℕ)) → AreBlocks (block ∷ blocks) → AreBlocks blocks
rest block blocks h k d lt = h (suc k) d (omega arith)

pub length-joined : (blocks : List (List ℕ)) → AreBlocks blocks → length (joined blocks) ≡ 512 * length blocks
length-joined [] h = refl
length-joined (block ∷ blocks) h =
    let behind = length-joined blocks (rest block blocks h) in
    let here = h 0 [] (omega arith) in
    length-append block (joined blocks) ∙ omega arith

-- the first block, and the bytes behind it
front : (block bytes : List ℕ) → length block ≡ 512 → take 512 (block ++ bytes) ≡ block
front block bytes h = take-append-le 512 block bytes (omega arith) ∙ take_all 512 block (omega arith)

behind : (block bytes : List ℕ) → length block ≡ 512 → drop 512 (block ++ bytes) ≡ bytes
behind block bytes h = let start : 512 ≡ length block + 0 = omega arith in ap (λ n. drop n (block ++ bytes)) start ∙ drop-append-add block bytes 0

chunks_are : (blocks : List (List ℕ)) → AreBlocks blocks → first_chunks 512 (length blocks) (joined blocks) ≡ blocks
chunks_are [] h = refl
chunks_are (block ∷ blocks) h =
    let here = h 0 [] (omega arith) in
    let first = front block (joined blocks) here in
    let others = ap (first_chunks 512 (length blocks)) (behind block (joined blocks) here) ∙ chunks_are blocks (rest block blocks h) in
    λ i. first i ∷ others i

pub blocks_read : (blocks : List (List ℕ)) → AreBlocks blocks → blocks_in (joined blocks) ≡ blocks
blocks_read blocks h =
    let long = length-joined blocks h in
    let count : length (joined blocks) / 512 ≡ length blocks = omega arith in
    ap (λ k. first_chunks 512 k (joined blocks)) count ∙ chunks_are blocks h
