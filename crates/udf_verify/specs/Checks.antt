-- What is left of the check of words that stand in a list.
use Rattle.std.specs.Prelude.{◌≡◌, ℕ, ◌+◌, Bool, List, [], Result, Err}
use Rattle.udf_code.specs.declared.word.Word.{Word}
use Rattle.udf_code.specs.Tree.{Tree, Stop, Plain, If, IfElse, Loop}
use Rattle.udf_verify.specs.declared.fault.Role.{Role}
use Rattle.udf_verify.specs.declared.fault.VerifyFault.{VerifyFault}
use Rattle.udf_verify.specs.declared.fault.FaultKind.TheVariants as kind
use Rattle.udf_verify.specs.Intervals.{Interval, merge}
use Rattle.udf_verify.specs.Bounds.{bounds, size, ◌>>=◌}
use Rattle.udf_verify.specs.Layout.{IsBlockAt}

abbrev pub CheckAnswer : Type 0
CheckAnswer = Result (List Interval) VerifyFault

-- the check of the words from one place to another answers this
abbrev pub Checks : List Word → List ℕ → ℕ → ℕ → Role → List Bool → List Interval → CheckAnswer → Type 0
Checks words targets from to role counters ivs answer =
    (tree : Tree) × IsBlockAt words targets from to [] tree × (bounds role counters from tree ivs ≡ answer)

-- the rest of an IF's row, behind its test
abbrev pub branches : Role → List Bool → ℕ → Tree → List Interval → List Interval → CheckAnswer
branches role counters at Stop first other = Err (record { at = at; kind = kind.Emits })
branches role counters at (Plain word rest) first other = Err (record { at = at; kind = kind.Emits })
branches role counters at (If test a b body rest) first other = do
  after ← bounds role counters (at + 1) body first
  bounds role counters (at + 1 + size body + 1) rest (merge after other)
branches role counters at (IfElse test a b body alternative rest) first other = do
  after_first ← bounds role counters (at + 1) body first
  after_other ← bounds role counters (at + 1 + size body + 1) alternative other
  bounds role counters (at + 1 + size body + 1 + size alternative + 1) rest (merge after_first after_other)
branches role counters at (Loop a n claims body rest) first other = Err (record { at = at; kind = kind.Emits })

-- the block begins with an IF
abbrev pub IsOpening : Tree → Type 0
IsOpening (If test a b first rest) = Unit {0}
IsOpening (IfElse test a b first other rest) = Unit {0}
IsOpening tree = ⊥

-- the check of an IF and what follows it answers this, where its test splits the intervals so
abbrev pub BranchChecks : List Word → List ℕ → ℕ → ℕ → Role → List Bool → List Interval → List Interval → CheckAnswer → Type 0
BranchChecks words targets at to role counters first other answer =
    (tree : Tree) × IsOpening tree × IsBlockAt words targets at to [] tree × (branches role counters at tree first other ≡ answer)
