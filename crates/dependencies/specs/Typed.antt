-- What the lives of a store say of the types of the blocks that entries add.
use Rattle.std.specs.Prelude.{◌≡◌, ℕ, true, List, ◌∷◌, ◌++◌, Some, Contains}
use Rattle.xn_model.specs.Lives.{BlockState, Life, Lives, is_type_met, life_at}

-- An entry of block 0 needs no look at types, and an entry of any other block finds them on the disk or not at all.
pub record FindsTypes (lives : Lives) : Type 0 where
  -- a life of type 0 is that of block 0
  pub alone : (b : ℕ) (l : Life) → life_at lives b ≡ Some l → l.ty ≡ 0 → b ≡ 0
  -- each pending entry of block 0 finds the types of the blocks that it adds
  pub root : (l : Life) (earlier later : List BlockState) (s : BlockState) (c u : ℕ) →
      life_at lives 0 ≡ Some l → l.pending ≡ earlier ++ s ∷ later → Contains s.adds (c, u) → is_type_met lives l.ty earlier u ≡ true
