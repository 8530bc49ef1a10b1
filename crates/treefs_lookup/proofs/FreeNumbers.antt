-- Leaves of inode 0 that can be given, and those whose pointers stand beside theirs.
use Rattle.std.proofs.Common.{◌≡◌, ℕ, ◌+◌, ◌-◌, ◌<◌, ◌≤◌, Bool, true, false, List, refl, sym, ◌∙◌, ap, inl, inr, arith, subst, eq-eqb, ne_eqb, if◌then◌else◌}
use Rattle.std.proofs.Math.Seq.{drop-cons}
use Rattle.std.proofs.lemmas.Bool.{cases_lt, le-ltb, lt-ltb}
use Rattle.std.specs.Bool.{MatchBool}
use Rattle.xn_model.specs.Lives.{StoreState}
use Rattle.xn_model.specs.PendingIn.{pending_in_of}
use Rattle.treefs_format.specs.Paths.{last_beside, leaf_count, steps}
use Rattle.treefs_model.specs.Reading.{block_at, leaf_block, pointed}
use Rattle.treefs_model.specs.declared.fault.Fault.TheVariants.{Full, NoInode}
use Rattle.treefs_lookup.specs.Numbers.{ArePointed, CanGive, IsFirstEmpty, IsNextFree, IsNextNumber, IsNoneFree, NoneCanGive, SomeIsCrowded, holder_of, turn}
use Rattle.treefs_lookup.specs.Readable.{readable}
use Rattle.treefs_lookup.specs.Walks.{end_of, holder_steps, pointer_offset, reach}
use Rattle.treefs_lookup.specs.declared.paths.Reach.{Reach}
use Rattle.treefs_lookup.proofs.Trees.{beside, below_last, steps_some}
use Rattle.treefs_lookup.proofs.Walks.{ends}

-- the last pointer of a path is that of the leaf, in its holder
last_pointer : (content : ℕ → List ℕ) (top leaf : ℕ) → leaf_block content top leaf ≡ pointed content (block_at content top (holder_steps leaf)) (pointer_offset leaf)
last_pointer content top leaf = ap (block_at content top) (drop-cons (steps leaf) 0 0 (steps_some leaf))

module _ (state : StoreState) (fs top i : ℕ) (lt : i < leaf_count) (r : Reach) (is : r ≡ holder_of state fs top i) (whole : r.missing ≡ 0) where
  abbrev content : ℕ → List ℕ
  content = readable state fs

  holder_beside : (j : ℕ) → i ≤ j → j ≤ last_beside i → holder_of state fs top j ≡ r
  holder_beside j ge le = ap (reach content top) (beside i j lt ge le).same ∙ sym is

  leaf_beside : (j : ℕ) → i ≤ j → j ≤ last_beside i → leaf_block content top j ≡ pointed content r.block (pointer_offset j)
  leaf_beside j ge le =
      let end : end_of r ≡ r.block = ap (λ (t : Bool). if t then r.block else 0) (eq-eqb r.missing 0 whole) in
      last_pointer content top j ∙ ap (λ b. pointed content b (pointer_offset j)) (ends content top (holder_steps j) ∙ (ap end_of (holder_beside j ge le) ∙ end))

  there_beside : (j : ℕ) → i ≤ j → j ≤ last_beside i → (holder_of state fs top j).missing ≡ 0
  there_beside j ge le = ap (λ (x : Reach). x.missing) (holder_beside j ge le) ∙ whole

  pending_beside : (j : ℕ) → i ≤ j → j ≤ last_beside i → pending_in_of state (holder_of state fs top j).block ≡ pending_in_of state r.block
  pending_beside j ge le = ap (λ (x : Reach). pending_in_of state x.block) (holder_beside j ge le)

  -- one whose pointer is 0 can be given, where the block is calm
  pub free_can : pending_in_of state r.block ≤ 60 → (j : ℕ) → IsFirstEmpty content r.block i j → CanGive state fs top j
  free_can calm j first = let same = pending_beside j first.past first.beside in record {
    free = leaf_beside j first.past first.beside ∙ first.empty;
    calm = λ e. omega arith;
  }

  -- those with pointers can't be
  pub pointed_none : (from to : ℕ) → to ≤ last_beside i + 1 → NoneCanGive state fs top from i → ArePointed content r.block i to → NoneCanGive state fs top from to
  pointed_none from to few before pointed j ge less can = elim (cases_lt j i) [
    | inl a ↦ before j ge a can
    | inr a ↦ pointed j a less (sym (leaf_beside j a (omega arith)) ∙ can.free)
  ]

  -- nor those in a crowded block
  pub crowded_none : 60 < pending_in_of state r.block → (from : ℕ) → NoneCanGive state fs top from i → NoneCanGive state fs top from (last_beside i + 1)
  crowded_none many from before j ge less can = elim (cases_lt j i) [
    | inl a ↦ before j ge a can
    | inr a ↦
        let same = pending_beside j a (omega arith) in
        let calm = can.calm (there_beside j a (omega arith)) in
        omega arith
  ]

  pub crowded_some : 60 < pending_in_of state r.block → (from : ℕ) → from ≤ i → SomeIsCrowded state fs top from leaf_count
  crowded_some many from past =
      let ge : i ≤ i = omega arith in
      (i, (past, lt, record { there = ap (λ (x : Reach). x.missing) (sym is) ∙ whole; many = subst (λ (x : Reach). 60 < pending_in_of state x.block) is many }))

  -- in a calm block none is crowded
  pub calm_none : pending_in_of state r.block ≤ 60 → (from : ℕ) → (SomeIsCrowded state fs top from i → ⊥) → SomeIsCrowded state fs top from (last_beside i + 1) → ⊥
  calm_none calm from before some =
      let j = some.0 in
      let less : j < last_beside i + 1 = some.1.1 in
      elim (cases_lt j i) [
        | inl a ↦ before (j, (some.1.0, a, some.1.2))
        | inr a ↦ let same = pending_beside j a (omega arith) in let many = some.1.2.many in omega arith
      ]

-- one whose block is missing can be given
pub missing_next : (state : StoreState) (fs top from leaf : ℕ) (r : Reach) → leaf < leaf_count → r ≡ holder_of state fs top leaf → 0 < r.missing → from ≤ leaf →
    NoneCanGive state fs top from leaf → IsNextFree state fs top from leaf
missing_next state fs top from leaf r lt is lack past before =
    let content = readable state fs in
    let end : end_of r ≡ 0 = ap (λ (t : Bool). if t then r.block else 0) (ne_eqb r.missing 0 (λ z. omega arith)) in
    let same : r.missing ≡ (holder_of state fs top leaf).missing = ap (λ (x : Reach). x.missing) is in
    record {
      past = past;
      few = lt;
      can = record {
        free = last_pointer content top leaf ∙ ap (λ b. pointed content b (pointer_offset leaf)) (ends content top (holder_steps leaf) ∙ (ap end_of (sym is) ∙ end));
        calm = λ e. absurd (omega arith);
      };
      first = before;
    }

-- none can be given where all were looked at
module _ (state : StoreState) (fs top from leaf : ℕ) (is_crowded : Bool) (past : leaf_count ≤ leaf) (none : NoneCanGive state fs top from leaf)
    (crowds : MatchBool is_crowded (SomeIsCrowded state fs top from leaf_count) (SomeIsCrowded state fs top from leaf → ⊥)) where
  none_can : NoneCanGive state fs top from leaf_count
  none_can j ge lt can = none j ge (omega arith) can

  pub none_as_crowded : is_crowded ≡ true → IsNoneFree state fs top from Full
  none_as_crowded e = record {
    none = none_can;
    why = inl (refl, subst (λ b. MatchBool b (SomeIsCrowded state fs top from leaf_count) (SomeIsCrowded state fs top from leaf → ⊥)) e crowds);
  }

  pub none_at_all : is_crowded ≡ false → IsNoneFree state fs top from NoInode
  none_at_all e = record {
    none = none_can;
    why = inr (
      refl,
      λ some.
          let before : some.0 < leaf_count = some.1.1 in
          subst (λ b. MatchBool b (SomeIsCrowded state fs top from leaf_count) (SomeIsCrowded state fs top from leaf → ⊥)) e crowds (some.0, (some.1.0, omega arith, some.1.2)),
    );
  }

pub none_given : (state : StoreState) (fs top from : ℕ) → NoneCanGive state fs top from from
none_given state fs top from leaf ge lt = absurd (omega arith)

pub none_crowded : (state : StoreState) (fs top from : ℕ) → SomeIsCrowded state fs top from from → ⊥
none_crowded state fs top from some =
    let past : from ≤ some.0 = some.1.0 in
    let before : some.0 < from = some.1.1 in
    omega arith

pub gets_nearer : (leaf last : ℕ) → leaf < leaf_count → last ≡ last_beside leaf → leaf_count - (last + 1) < leaf_count - leaf
gets_nearer leaf last lt is = let low = below_last leaf in omega arith

-- Numbers in their order

turn_low : (hint n : ℕ) → n < hint → turn hint n ≡ n + leaf_count
turn_low hint n lt = ap (λ (t : Bool). if t then n + leaf_count else n) (lt-ltb n hint lt)

turn_high : (hint n : ℕ) → hint ≤ n → turn hint n ≡ n
turn_high hint n le = ap (λ (t : Bool). if t then n + leaf_count else n) (le-ltb n hint le)

module _ (state : StoreState) (fs top hint leaf : ℕ) where
  number_at : CanGive state fs top leaf → CanGive state fs top (leaf + 1 - 1)
  number_at can = let e : leaf ≡ leaf + 1 - 1 = omega arith in subst (CanGive state fs top) e can

  -- the first one from the hint on
  pub next_number : IsNextFree state fs top (hint - 1) leaf → IsNextNumber state fs top hint (leaf + 1)
  next_number next =
      let past : hint - 1 ≤ leaf = next.past in
      let few : leaf < leaf_count = next.few in
      record {
        some = omega arith;
        few = omega arith;
        can = number_at next.can;
        first = λ m one most before can. elim (cases_lt m hint) [
          | inl a ↦ let low = turn_low hint m a in elim (cases_lt (leaf + 1) hint) [
            | inl b ↦ absurd (omega arith)
            | inr b ↦ let high = turn_high hint (leaf + 1) b in absurd (omega arith)
          ]
          | inr a ↦ let high = turn_high hint m a in elim (cases_lt (leaf + 1) hint) [
            | inl b ↦ next.first (m - 1) (omega arith) (let same = turn_low hint (leaf + 1) b in omega arith) can
            | inr b ↦ let own = turn_high hint (leaf + 1) b in next.first (m - 1) (omega arith) (omega arith) can
          ]
        ];
      }

  pub first_number : NoneCanGive state fs top (hint - 1) leaf_count → IsNextFree state fs top 0 leaf → IsNextNumber state fs top hint (leaf + 1)
  first_number none next =
      let few : leaf < leaf_count = next.few in
      record {
        some = omega arith;
        few = omega arith;
        can = number_at next.can;
        first = λ m one most before can. elim (cases_lt m hint) [
          | inl a ↦ elim (cases_lt (leaf + 1) hint) [
            | inl b ↦ let low = turn_low hint m a in let last = turn_low hint (leaf + 1) b in next.first (m - 1) (omega arith) (omega arith) can
            | inr b ↦ none leaf (omega arith) few next.can
          ]
          | inr a ↦ none (m - 1) (omega arith) (omega arith) can
        ];
      }
