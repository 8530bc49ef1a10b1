-- Pointers stay where they are set, so what a cut leads to is led to in newest by the same path.
--     ReadsTypes T S        the pointers that are read are what the types own
--     StaysAt S fs lives    a block stands at one offset in all states of its owner
--     IsPointed             something points to a block in newest
--     table_layout          number n stands at the end of the path steps n
use Rattle.std.specs.Prelude.{◌≡◌, ◌≢◌, ◌⊎◌, ℕ, List, [], ◌∷◌, Contains, IsTrue, ⊤}
use Rattle.xn_model.specs.Types.{Types, fits}
use Rattle.xn_model.specs.Lives.{Lives}
use Rattle.ffs_model.specs.Cuts.{Choice, IsCut, latest, seen}
use Rattle.treefs_model.specs.Acts.{Act}
use Rattle.treefs_model.specs.Links.{Layout}
use Rattle.treefs_model.specs.Edited.{IsOwn}
use Rattle.treefs_model.specs.Places.{Shape, at, pointer_at}

pub record ReadsTypes (T : Types) (S : Shape) : Type 0 where
  pub owned : (t : ℕ) (m : List ℕ) (o x : ℕ) → S.pointer t m o ≡ x → x ≢ 0 → (u : ℕ) × Contains (T.owned t m) (x, u)
  -- of a type that has pointers, what is owned is read
  pub slots : (t : ℕ) (m m' : List ℕ) (o x u : ℕ) → S.pointer t m o ≢ 0 → Contains (T.owned t m') (x, u) → (o' : ℕ) × (S.pointer t m' o' ≡ x)
  pub once : (t : ℕ) (m : List ℕ) (o o' x : ℕ) → IsTrue (fits T t m) → S.pointer t m o ≡ x → S.pointer t m o' ≡ x → x ≢ 0 → o ≡ o'
  pub none : (t o : ℕ) → S.pointer t [] o ≡ 0

abbrev pub StaysAt : Shape → ℕ → Lives → Type 0
StaysAt S fs lives = (k : Choice) (p o o' x : ℕ) → IsCut lives k → IsOwn fs lives p → x ≢ 0 → pointer_at S lives (seen lives k) p o ≡ x →
    pointer_at S lives (latest lives) p o' ≡ x → o ≡ o'

abbrev pub IsPointed : Shape → Lives → ℕ → Type 0
IsPointed S lives x = (q : ℕ) × (o : ℕ) × (pointer_at S lives (latest lives) q o ≡ x)

-- an edit moves no pointer
abbrev pub MovesNone : Shape → Act → Lives → Lives → Type 0
MovesNone S act old new = (o x : ℕ) → x ≢ 0 → pointer_at S new (latest new) act.block o ≡ x →
    (pointer_at S old (latest old) act.block o ≡ x) ⊎ ((u : ℕ) × Contains act.edit.adds (x, u))

-- no block of a path but its end, in newest, is b
abbrev pub PassesBy : Shape → Lives → ℕ → ℕ → List ℕ → Type 0
PassesBy S lives top b [] = ⊤
PassesBy S lives top b (o ∷ os) = (at S lives (latest lives) top os ≢ b) × PassesBy S lives top b os

-- the table of inodes, as paths of pointers from one block
abbrev pub table_layout : Shape → Lives → ℕ → (ℕ → List ℕ) → (ℕ → ℕ → List ℕ → ℕ) → (List ℕ → ℕ) → Layout
table_layout S lives top steps records links = record { leaf = λ v n. at S lives v top (steps n); records = records; links = links }
