-- No directory has a name twice.
--     Records       how a bucket's records are read
--     IsSingle      each cut has a name of a directory once
--     KeepsSingle   what an edit does to the records of its block
use Rattle.std.specs.Prelude.{◌≡◌, ◌≢◌, ◌⊎◌, ℕ, Bool, List, IsTrue}
use Rattle.xn_model.specs.Lives.{Lives}
use Rattle.ffs_model.specs.Cuts.{Choice, IsCut, latest, seen}
use Rattle.treefs_model.specs.Acts.{Act}

pub record Records : Type 0 where
  -- of a block with these bytes: a record of the name is there, live or dead; a live one; no name has two
  pub has : ℕ → List ℕ → List ℕ → Bool
  pub live : ℕ → List ℕ → List ℕ → Bool
  pub once : ℕ → List ℕ → Bool

-- directory b: the number of the directory of which b is a bucket, 0 for none
pub record IsSingle (R : Records) (directory : ℕ → ℕ) (lives : Lives) : Type 0 where
  pub once : (k : Choice) (b : ℕ) → IsCut lives k → directory b ≢ 0 → IsTrue (R.once b (seen lives k b))
  -- a name that is live in a cut has a record in newest, in the same bucket
  pub kept : (k : Choice) (b : ℕ) (name : List ℕ) → IsCut lives k → directory b ≢ 0 → IsTrue (R.live b (seen lives k b) name) →
      IsTrue (R.has b (latest lives b) name)
  -- in newest it has one in one bucket
  pub apart : (b c : ℕ) (name : List ℕ) → directory b ≢ 0 → directory b ≡ directory c → IsTrue (R.has b (latest lives b) name) →
      IsTrue (R.has c (latest lives c) name) → b ≡ c

pub record KeepsSingle (R : Records) (directory : ℕ → ℕ) (act : Act) (old new : Lives) : Type 0 where
  pub once : IsTrue (R.once act.block (latest new act.block))
  -- what is live stays in the bucket, if its record does; a record that is new is of a name without one
  pub stays : (k : Choice) (name : List ℕ) → IsCut old k → IsTrue (R.live act.block (seen old k act.block) name) → IsTrue (R.has act.block (latest old act.block) name) →
      IsTrue (R.has act.block (latest new act.block) name)
  pub live : (name : List ℕ) → IsTrue (R.live act.block (latest new act.block) name) → IsTrue (R.has act.block (latest new act.block) name)
  pub fresh : (name : List ℕ) → IsTrue (R.has act.block (latest new act.block) name) →
      IsTrue (R.has act.block (latest old act.block) name) ⊎ ((c : ℕ) → directory act.block ≡ directory c → IsTrue (R.has c (latest old c) name) → act.block ≡ c)
