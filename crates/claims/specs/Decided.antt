-- Which chunks of blocks decide what they own, as far as that is kept.
--     newest_at lives b            the type and the newest bytes of a block in use
--     AreDecided T sets lives      where chunks are kept of such a block, they decide what these bytes own
--     Decides T lives b bytes set  they would decide it, if the block had these bytes
--     Leaves chunks edit           the edit leaves what those chunks hold, and what the block owns
use Rattle.std.specs.Prelude.{◌≡◌, ℕ, ◌+◌, ◌/◌, ◌<◌, ◌≤◌, List, [], length, Option, Some, None, option_map, slice_index_or}
use Rattle.std.specs.Int.{bit_at}
use Rattle.xn_model.specs.Types.{Types}
use Rattle.xn_model.specs.Lives.{Life, Lives, current, life_at}
use Rattle.xn_model.specs.Calls.{Edit, Patch, patched}
use Rattle.udf_run.specs.ReadSets.{AgreeOn}
use Rattle.udf_run.specs.declared.reads.ReadSet.{ReadSet}
use Rattle.templates.specs.Decided.{DecidesOwned}

abbrev pub newest_of : Option Life → Option (ℕ × List ℕ)
newest_of o = option_map (λ l. (l.ty, current l)) o

abbrev pub newest_at : Lives → ℕ → Option (ℕ × List ℕ)
newest_at lives b = newest_of (life_at lives b)

pub record AreDecided (T : Types) (sets : List (Option ReadSet)) (lives : Lives) : Type 0 where
  pub long : length sets ≡ length lives
  pub each : (b t : ℕ) (m : List ℕ) (reads : ReadSet) → newest_at lives b ≡ Some (t, m) → slice_index_or sets b None ≡ Some reads →
      DecidesOwned T t m reads.chunks

abbrev pub Decides : Types → Lives → ℕ → List ℕ → Option ReadSet → Type 0
Decides T lives b bytes set = (l : Life) (reads : ReadSet) → life_at lives b ≡ Some l → set ≡ Some reads → DecidesOwned T l.ty bytes reads.chunks

-- the patch writes into none of the chunks
abbrev pub WritesApart : ℕ → Patch → Type 0
WritesApart chunks p = (i : ℕ) → p.offset ≤ i → i < p.offset + length p.bytes → bit_at chunks (i / 8) ≡ 0

pub record Leaves (chunks : ℕ) (edit : Edit) : Type 0 where
  pub no_adds : edit.adds ≡ []
  pub no_drops : edit.drops ≡ []
  pub apart : (m : List ℕ) → length m ≡ 512 → AgreeOn chunks m (patched m edit.patches)
