-- Blocks that begin at a leaf.
use Rattle.std.proofs.Common.{◌≡◌, ℕ, zero, suc, ◌+◌, ◌*◌, ◌-◌, ◌/◌, ◌%◌, ◌<◌, ◌≤◌, ◌^◌, Bool, true, false, List, length, refl, sym, ◌∙◌, ap, inl, inr, arith, ◌==◌}
use Rattle.std.specs.Prelude.{◌≢◌, ◌&&◌, nat_le}
use Rattle.std.proofs.Math.Nat.{mul_left_comm, pow-succ'}
use Rattle.std.proofs.lemmas.Bool.{cases_lt, le-leb, leb-true}
use Rattle.std.proofs.lemmas.Bool.Decides.{Decides-eqb}
use Rattle.treefs_format.specs.Paths.{first_leaf, height_of, leaf_count, place_in_tree, steps}
use Rattle.treefs_model.specs.Reading.{block_at}
use Rattle.treefs_lookup.specs.Trimmed.{Begins, NoneBegins, is_first, is_first_node}
use Rattle.treefs_lookup.specs.Walks.{behind, place_above, reach}
use Rattle.treefs_lookup.specs.declared.paths.Reach.{Reach}
use Rattle.treefs_lookup.proofs.PassedLeaves.{levels_few, missing_is}
use Rattle.treefs_lookup.proofs.Trees.{first_past, is_behind, steps_long}
use Rattle.treefs_lookup.proofs.Walks.{lacks, lacks_above, stands_above}

both : (a b : Bool) → (a && b) ≡ true → (a ≡ true) × (b ≡ true)
both true b e = (refl, e)
both false b e = cc

first_place : (place : ℕ) → (place % 127 == 0) ≡ true → place % 127 ≡ 0
first_place place e = (Decides-eqb (place % 127) 0).0 e

-- also below the blocks of fewer levels
first_fewer : (low levels place : ℕ) → low ≤ levels → is_first levels place ≡ true → is_first low place ≡ true
first_fewer zero levels place le e = refl
first_fewer (suc low) zero place le e = absurd (omega arith)
first_fewer (suc low) (suc levels) place le e =
    let b = both (place % 127 == 0) (is_first levels (place / 127)) e in
    ap (λ t. t && is_first low (place / 127)) b.0 ∙ first_fewer low levels (place / 127) (omega arith) b.1

first_is : (levels place : ℕ) → is_first levels place ≡ true → place ≡ place_above levels place * 127 ^ levels
first_is zero place e = omega arith
first_is (suc levels) place e =
    let b = both (place % 127 == 0) (is_first levels (place / 127)) e in
    let none = first_place place b.0 in
    let before = first_is levels (place / 127) b.1 in
    let power = pow-succ' 127 levels in
    let more : place_above levels (place / 127) * 127 ^ suc levels ≡ 127 * (place_above levels (place / 127) * 127 ^ levels) = times (place_above levels (place / 127)) (127 ^ levels) (127 ^ suc levels) power in
    omega arith
  where
    times : (k p q : ℕ) → q ≡ 127 * p → k * q ≡ 127 * (k * p)
    times k p q e = ap (λ n. k * n) e ∙ mul_left_comm k 127 p

above_before : (levels place : ℕ) → place_above levels place * 127 ^ levels ≤ place
above_before zero place = omega arith
above_before (suc levels) place =
    let before = above_before levels (place / 127) in
    let power = pow-succ' 127 levels in
    let more : place_above levels (place / 127) * 127 ^ suc levels ≡ 127 * (place_above levels (place / 127) * 127 ^ levels) = ap (λ n. place_above levels (place / 127) * n) power ∙ mul_left_comm (place_above levels (place / 127)) 127 (127 ^ levels) in
    omega arith

-- of those below one block only the first one is
only_first : (levels r s : ℕ) → place_above levels s ≡ place_above levels r → is_first levels s ≡ true → s ≤ r
only_first levels r s same first =
    let at : s ≡ place_above levels s * 127 ^ levels = first_is levels s first in
    let e : place_above levels s * 127 ^ levels ≡ place_above levels r * 127 ^ levels = ap (λ k. k * 127 ^ levels) same in
    let before = above_before levels r in
    omega arith

node_low : (leaf levels : ℕ) → is_first_node leaf levels ≡ true → levels ≤ height_of leaf
node_low leaf levels e = leb-true levels (height_of leaf) (both (nat_le levels (height_of leaf)) (is_first levels (place_in_tree leaf)) e).0

node_first : (leaf levels : ℕ) → is_first_node leaf levels ≡ true → is_first levels (place_in_tree leaf) ≡ true
node_first leaf levels e = (both (nat_le levels (height_of leaf)) (is_first levels (place_in_tree leaf)) e).1

is_node : (leaf levels : ℕ) → levels ≤ height_of leaf → is_first levels (place_in_tree leaf) ≡ true → is_first_node leaf levels ≡ true
is_node leaf levels le e = ap (λ t. t && is_first levels (place_in_tree leaf)) (le-leb levels (height_of leaf) le) ∙ e

module _ (content : ℕ → List ℕ) (inode number : ℕ) (r : Reach) (lt : number < leaf_count) (is : r ≡ reach content inode (steps number)) where
  pub leaf_begins : r.missing ≡ 0 → Begins content inode number 0
  leaf_begins whole = record {
    high = omega arith;
    first = refl;
    there = λ none.
        let some : length (steps number) ≡ height_of number + 1 = steps_long number lt in
        stands_above content inode (steps number) 0 (ap (λ (x : Reach). x.missing) (sym is) ∙ whole) (omega arith) none;
  }

  pub node_begins : is_first_node number r.missing ≡ true → Begins content inode number r.missing
  node_begins node = record {
    high = node_low number r.missing node;
    first = node_first number r.missing node;
    there =
        let some : length (steps number) ≡ height_of number + 1 = steps_long number lt in
        let le = node_low number r.missing node in
        stands_above content inode (steps number) r.missing (ap (λ (x : Reach). x.missing) (sym is)) (omega arith);
  }

  pub none_begins : r.missing ≢ 0 → is_first_node number r.missing ≡ false → (from : ℕ) → NoneBegins content inode from number →
      NoneBegins content inode from (behind number (r.missing - 1))
  none_begins lack other from before leaf levels ge less begins = elim (cases_lt leaf number) [
    | inl a ↦ before leaf levels ge a begins
    | inr a ↦
        let m = r.missing - 1 in
        let few = levels_few content inode number r lt is lack in
        let beside = (is_behind number m lt few).beside leaf a less in
        let l = lacks content inode (steps number) m (missing_is content inode number r lt is lack) in
        elim (cases_lt m levels) [
          | inr low ↦ begins.there (lacks_above content inode levels m (steps leaf) low (ap (block_at content inode) beside.same ∙ l.1))
          | inl high ↦
              let first = first_fewer m levels (place_in_tree leaf) (omega arith) begins.first in
              let le = only_first m (place_in_tree number) (place_in_tree leaf) beside.above first in
              let start = first_past number lt in
              let height : first_leaf (height_of leaf) ≡ first_leaf (height_of number) = ap first_leaf beside.height in
              let same : leaf ≡ number = omega arith in
              let some : r.missing ≡ 0 → ⊥ = lack in
              let here = first_fewer r.missing levels (place_in_tree leaf) (omega arith) begins.first in
              let high_enough = begins.high in
              let tall = ap height_of same in
              let node = is_node number r.missing (omega arith) (ap (λ k. is_first r.missing (place_in_tree k)) (sym same) ∙ here) in
              no_both (is_first_node number r.missing) node other
        ]
  ]
    where
      no_both : (b : Bool) → b ≡ true → b ≡ false → ⊥
      no_both b p q = cc

pub none_yet : (content : ℕ → List ℕ) (inode from : ℕ) → NoneBegins content inode from from
none_yet content inode from leaf levels ge lt = absurd (omega arith)

pub none_at_all : (content : ℕ → List ℕ) (inode from number : ℕ) → leaf_count ≤ number → NoneBegins content inode from number → NoneBegins content inode from leaf_count
none_at_all content inode from number past before leaf levels ge lt = before leaf levels ge (omega arith)

-- one place on
pub first_step : (levels l place : ℕ) → l < levels → is_first (levels - l) place ≡ ((place % 127 == 0) && is_first (levels - (l + 1)) (place / 127))
first_step levels l place lt = let e : levels - l ≡ suc (levels - (l + 1)) = omega arith in ap (λ n. is_first n place) e
