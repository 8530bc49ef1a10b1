use Rattle.std.proofs.Common.{◌≡◌, ◌+◌, ◌≤◌, Bool, true, false, arith, sym, subst}
use Rattle.std.specs.Bool.{MatchBool}
use Rattle.xn_model.specs.PendingIn.{pending_in_of}
use Rattle.treefs_format.specs.Paths.{last_beside, leaf_count}
use Rattle.treefs_lookup.specs.Numbers.{NoneCanGive, SomeIsCrowded}
use Rattle.treefs_lookup.proofs.FreeNumbers.{calm_none, crowded_none, crowded_some, free_can, gets_nearer, missing_next, none_as_crowded, none_at_all, none_crowded, none_given, pointed_none}
use Rattle.treefs_lookup.proofs.Trees.{below_last, last_few}
use Rattle.treefs_lookup.proofs.numbers.next_free.Goals.{then-pending_in-gt-MOST_PENDING, else-pending_in-gt-MOST_PENDING+in_default}
use Rattle.treefs_lookup.proofs.numbers.next_free.Goals as goal

pub loop-leaf-init : goal.loop-leaf-init
loop-leaf-init g c = record {
  past = omega arith;
  none = none_given (g.S.Store.state_of c.args.store.now) c.args.fs.number c.args.top c.args.from;
  crowds = none_crowded (g.S.Store.state_of c.args.store.now) c.args.fs.number c.args.top c.args.from;
}

pub overflow_add-leaf : goal.overflow_add-leaf
overflow_add-leaf g c =
    let last = last_few c.loop-leaf.leaf c.loop-leaf-test.true in
    let is = c.last_beside-leaf.ensures in
    omega arith

pub loop-leaf-smaller : goal.loop-leaf-smaller
loop-leaf-smaller g c = gets_nearer c.loop-leaf.leaf c.last_beside-leaf.result c.loop-leaf-test.true c.last_beside-leaf.ensures

pub returns-then-holder-gt0 : goal.returns-then-holder-gt0
returns-then-holder-gt0 g c =
    missing_next (g.S.Store.state_of c.args.store.now) c.args.fs.number c.args.top c.args.from c.loop-leaf.leaf c.find_holder-holder.result
    c.loop-leaf-test.true c.find_holder-holder.ensures c.if-holder-gt0.true c.loop-leaf.invariant.past c.loop-leaf.invariant.none

pub returns-then-is_crowded : goal.returns-then-is_crowded
returns-then-is_crowded g c =
    none_as_crowded (g.S.Store.state_of c.args.store.now) c.args.fs.number c.args.top c.args.from c.loop-leaf.leaf c.loop-leaf.is_crowded
    c.loop-leaf-test.false c.loop-leaf.invariant.none c.loop-leaf.invariant.crowds c.if-is_crowded.true

pub returns-else-is_crowded : goal.returns-else-is_crowded
returns-else-is_crowded g c =
    none_at_all (g.S.Store.state_of c.args.store.now) c.args.fs.number c.args.top c.args.from c.loop-leaf.leaf c.loop-leaf.is_crowded
    c.loop-leaf-test.false c.loop-leaf.invariant.none c.loop-leaf.invariant.crowds c.if-is_crowded.false

pub returns-in-Some : goal.returns-in-Some
returns-in-Some g c =
    let state = g.S.Store.state_of c.args.store.now in
    let r = c.find_holder-holder.result in
    let whole : r.missing ≡ 0 = omega arith in
    let calm : pending_in_of state r.block ≤ 60 = omega (arith, c.pending_in.ensures.pending) in
    let first = c.in-Some.ensures in
    let past = first.past in
    let beside = first.beside in
    let last = last_few c.loop-leaf.leaf c.loop-leaf-test.true in
    let at = c.loop-leaf.invariant.past in
    record {
      past = omega arith;
      few = omega arith;
      can = free_can state c.args.fs.number c.args.top c.loop-leaf.leaf c.loop-leaf-test.true r c.find_holder-holder.ensures whole calm c.in-Some.free first;
      first = pointed_none state c.args.fs.number c.args.top c.loop-leaf.leaf c.loop-leaf-test.true r c.find_holder-holder.ensures whole c.args.from c.in-Some.free (omega arith) c.loop-leaf.invariant.none first.first;
    }

pub loop-leaf-preserved : goal.loop-leaf-preserved
loop-leaf-preserved g c =
    let state = g.S.Store.state_of c.args.store.now in
    let fs = c.args.fs.number in
    let top = c.args.top in
    let leaf = c.loop-leaf.leaf in
    let lt = c.loop-leaf-test.true in
    let r = c.find_holder-holder.result in
    let is = c.find_holder-holder.ensures in
    let whole : r.missing ≡ 0 = omega arith in
    let from = c.args.from in
    let at = c.loop-leaf.invariant.past in
    let none = c.loop-leaf.invariant.none in
    let last = c.last_beside-leaf.ensures in
    let low : leaf ≤ last_beside leaf = below_last leaf in
    let next : last_beside leaf + 1 ≡ c.last_beside-leaf.result + 1 = omega arith in
    record {
      past = omega arith;
      none = elim c.if-pending_in-gt-MOST_PENDING.branch [
        | then-pending_in-gt-MOST_PENDING w ↦
            subst (NoneCanGive state fs top from) next
            (crowded_none state fs top leaf lt r is whole (omega (arith, c.pending_in.ensures.pending, w.if-pending_in-gt-MOST_PENDING.true)) from none)
        | else-pending_in-gt-MOST_PENDING+in_default w ↦
            subst (NoneCanGive state fs top from) next
            (pointed_none state fs top leaf lt r is whole from (last_beside leaf + 1) (omega arith) none w.in_default.ensures)
      ];
      crowds = elim c.if-pending_in-gt-MOST_PENDING.branch [
        | then-pending_in-gt-MOST_PENDING w ↦
            subst (λ b. MatchBool b (SomeIsCrowded state fs top from leaf_count) (SomeIsCrowded state fs top from (c.last_beside-leaf.result + 1) → ⊥)) (sym w.is_crowded-is)
            (crowded_some state fs top leaf lt r is whole (omega (arith, c.pending_in.ensures.pending, w.if-pending_in-gt-MOST_PENDING.true)) from at)
        | else-pending_in-gt-MOST_PENDING+in_default w ↦
            subst (λ b. MatchBool b (SomeIsCrowded state fs top from leaf_count) (SomeIsCrowded state fs top from (c.last_beside-leaf.result + 1) → ⊥)) (sym w.is_crowded-is)
            (crowds_more (SomeIsCrowded state fs top from leaf_count) (SomeIsCrowded state fs top from leaf) (SomeIsCrowded state fs top from (c.last_beside-leaf.result + 1)) c.loop-leaf.is_crowded c.loop-leaf.invariant.crowds (λ before some.
            calm_none state fs top leaf lt r is whole (omega (arith, c.pending_in.ensures.pending, w.if-pending_in-gt-MOST_PENDING.false)) from before
            (subst (λ n. SomeIsCrowded state fs top from n) (sym next) some)))
      ];
    }
  where
    crowds_more : (P Q R : Type 0) (b : Bool) → MatchBool b P (Q → ⊥) → ((Q → ⊥) → R → ⊥) → MatchBool b P (R → ⊥)
    crowds_more P Q R true h f = h
    crowds_more P Q R false h f = f h
