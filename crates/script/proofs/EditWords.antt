-- The words of an edit: what each kind begins with, and where it is split.
use Rattle.std.proofs.Common.{◌≡◌, ◌≢◌, ℕ, ◌+◌, ◌%◌, ◌^◌, ◌<◌, ◌≤◌, Option, List, [], ◌∷◌, ◌++◌, length, get_or, arith, sym, ◌∙◌}
use Rattle.std.specs.Borrow.{Bor}
use Rattle.std.specs.List.{All}
use Rattle.std.specs.Option.{MatchOption}
use Rattle.std.specs.Fmt.{decimal}
use Rattle.std.proofs.lemmas.List.Elements.{All-nil, All-push}
use Rattle.std.proofs.lemmas.Fmt.{decimal_by_steps}
use Rattle.std.proofs.lemmas.Str.Pattern.{IsSplitOnceResult, split_after}
use Rattle.xn_model.specs.Calls as model
use Rattle.script.specs.Edits.{SpellsPatch, SpellsAdd}

pub record IsDigit (byte : ℕ) : Type 0 where
  pub least : 48 ≤ byte
  pub greatest : byte ≤ 57

-- a number is spelled in digits
pub decimal_digits : (n : ℕ) → n < 2 ^ 64 → All IsDigit (decimal n)
decimal_digits n small = decimal_by_steps (λ _ text. All IsDigit text)
    (λ m h. All-push IsDigit [] (48 + m) (All-nil IsDigit) (record { least = omega arith; greatest = omega arith }))
    (λ m text h digits. All-push IsDigit text (48 + m % 10) digits (record { least = omega arith; greatest = omega arith }))
    n small

-- and in no other byte
pub decimal_without : (n byte : ℕ) → n < 2 ^ 64 → 57 < byte → (k : ℕ) → k < length (decimal n) → get_or (decimal n) k 0 ≢ byte
decimal_without n byte small other k h = λ e. absurd (omega (arith, (decimal_digits n small k 0 h).greatest))

-- where the word of a patch is split
pub patch_split : (word : List ℕ) (parts : Option (Bor (List ℕ) × Bor (List ℕ))) (patch : model.Patch) → IsSplitOnceResult 61 word parts → (spells : SpellsPatch word patch) →
    MatchOption parts ⊥ (λ p. (p.0.now ≡ decimal patch.offset) × (p.1.now ≡ spells.hex))
patch_split word parts patch split spells =
    split_after 61 word (decimal patch.offset) spells.hex parts split (omega arith) spells.spelled (decimal_without patch.offset 61 (omega (arith, spells.small)) (omega arith))

-- where the rest of the word of a block to add is split
pub add_split : (rest : List ℕ) (parts : Option (Bor (List ℕ) × Bor (List ℕ))) (block type : ℕ) → IsSplitOnceResult 58 rest parts → block < 2 ^ 32 → rest ≡ decimal block ++ (58 ∷ decimal type) →
    MatchOption parts ⊥ (λ p. (p.0.now ≡ decimal block) × (p.1.now ≡ decimal type))
add_split rest parts block type split small spelled =
    split_after 58 rest (decimal block) (decimal type) parts split (omega arith) spelled (decimal_without block 58 (omega arith) (omega arith))

pub add_rest : (word rest : List ℕ) (add : ℕ × ℕ) → word ≡ 43 ∷ rest → SpellsAdd word add → rest ≡ decimal add.0 ++ (58 ∷ decimal add.1)
add_rest word rest add stripped spells = let same : 43 ∷ rest ≡ 43 ∷ (decimal add.0 ++ (58 ∷ decimal add.1)) = sym stripped ∙ spells.spelled in cc
