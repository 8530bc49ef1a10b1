-- Where commas cut a text.
use Rattle.std.proofs.Common.{◌≡◌, ℕ, eqb, Option, Some, None, List, [], ◌∷◌, arith}
use Rattle.std.specs.Borrow.{Bor}
use Rattle.std.specs.Option.{MatchOption}
use Rattle.std.proofs.lemmas.List.Splits.{slice_split_first, slice_split_none}
use Rattle.std.proofs.lemmas.List.Sums.{fails_before_first}
use Rattle.std.proofs.lemmas.Str.Pattern.{IsSplitOnceResult, split_once_first}
use Rattle.tree_changes.specs.ModeTexts.{mode_parts}

pub first_cut : (text : List ℕ) (cut : Option (Bor (List ℕ) × Bor (List ℕ))) → IsSplitOnceResult 44 text cut →
    MatchOption cut (mode_parts text ≡ text ∷ []) (λ parts. mode_parts text ≡ parts.0.now ∷ mode_parts parts.1.now)
first_cut text None cut =
    let whole = split_once_first 44 text None cut (omega arith) in
    slice_split_none (λ b. eqb b 44) text (λ k d h. fails_before_first (λ b. eqb b 44) text k d (omega (arith, whole, h)))
first_cut text (Some parts) cut =
    let at = split_once_first 44 text (Some parts) cut (omega arith) in
    rw (at.1, at.2) (slice_split_first (λ b. eqb b 44) text 0 at.0)
