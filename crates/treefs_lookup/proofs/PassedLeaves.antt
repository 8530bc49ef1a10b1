-- Leaves that are passed over.
use Rattle.std.proofs.Common.{◌≡◌, ℕ, suc, ◌-◌, ◌<◌, ◌≤◌, Bool, List, length, sym, ◌∙◌, ap, inl, inr, arith, eq-eqb, if◌then◌else◌}
use Rattle.std.specs.Prelude.{◌≢◌}
use Rattle.std.proofs.lemmas.Bool.{cases_lt}
use Rattle.treefs_format.specs.Paths.{height_of, leaf_count, steps}
use Rattle.treefs_lookup.specs.Leaves.{AreMissing, IsNextLeaf}
use Rattle.treefs_lookup.specs.Walks.{behind, reach}
use Rattle.treefs_lookup.specs.declared.paths.Reach.{Reach}
use Rattle.treefs_lookup.proofs.Trees.{is_behind, steps_long, steps_some}
use Rattle.treefs_lookup.proofs.Walks.{end_is, lacks, lacks_leaf, stands}

module _ (content : ℕ → List ℕ) (inode number : ℕ) (r : Reach) (lt : number < leaf_count) (is : r ≡ reach content inode (steps number)) (lack : r.missing ≢ 0) where
  pub missing_is : (reach content inode (steps number)).missing ≡ suc (r.missing - 1)
  missing_is = let some : r.missing ≡ 0 → ⊥ = lack in let e : r.missing ≡ suc (r.missing - 1) = omega arith in ap (λ (x : Reach). x.missing) (sym is) ∙ e

  -- as many levels as there are
  pub levels_few : r.missing - 1 ≤ height_of number
  levels_few =
      let l = lacks content inode (steps number) (r.missing - 1) missing_is in
      let long = steps_long number lt in
      let less : r.missing - 1 < length (steps number) = l.0 in
      omega arith

  pub passed_over : (from : ℕ) → from ≤ number → AreMissing content inode from number → AreMissing content inode from (behind number (r.missing - 1))
  passed_over from past before j ge less = elim (cases_lt j number) [
    | inl a ↦ before j ge a
    | inr b ↦
        let l = lacks content inode (steps number) (r.missing - 1) missing_is in
        let beside = (is_behind number (r.missing - 1) lt levels_few).beside j b less in
        lacks_leaf content inode number j (r.missing - 1) beside.same l.1
  ]

  pub goes_on : number < behind number (r.missing - 1)
  goes_on = (is_behind number (r.missing - 1) lt levels_few).less

  pub gets_closer : (next : ℕ) → next ≡ behind number (r.missing - 1) → leaf_count - next < leaf_count - number
  gets_closer next e = let more = goes_on in omega arith

-- one that is there is the next one
pub is_next : (content : ℕ → List ℕ) (inode number from : ℕ) (r : Reach) → number < leaf_count → r ≡ reach content inode (steps number) → r.missing ≡ 0 →
    from ≤ number → AreMissing content inode from number → IsNextLeaf content inode from (record { number = number; block = r.block })
is_next content inode number from r lt is whole past before =
    let none : (reach content inode (steps number)).missing ≡ 0 = ap (λ (x : Reach). x.missing) (sym is) ∙ whole in
    record {
      past = past;
      few = lt;
      block = end_is content inode (steps number) r r.block is (sym (ap (λ (t : Bool). if t then r.block else 0) (eq-eqb r.missing 0 whole)));
      there = λ z. stands content inode (steps number) (steps_some number) none (ap (λ (x : Reach). x.block) (sym is) ∙ z);
      first = before;
    }

pub none_before : (content : ℕ → List ℕ) (inode from : ℕ) → AreMissing content inode from from
none_before content inode from leaf ge lt = absurd (omega arith)

pub none_left : (content : ℕ → List ℕ) (inode from number : ℕ) → leaf_count ≤ number → AreMissing content inode from number → AreMissing content inode from leaf_count
none_left content inode from number past before leaf ge lt = before leaf ge (omega arith)
