use Rattle.std.proofs.Common.{◌≡◌, ◌∙◌, ℕ, ◌+◌, ◌-◌, ◌≤◌, length, sym, subst, arith}
use Rattle.std.specs.Prelude.{is_some, slice_index, slice_set, IsTrue}
use Rattle.xn_model.specs.Images.{most_blocks}
use Rattle.xn_model.specs.Lives.{Lives, dropped_after, life_at, owned_after}
use Rattle.xn_model.specs.Calls.{life_bytes}
use Rattle.block_cache.specs.Claims.{claimed_state}
use Rattle.block_cache.specs.NewBytes.{new_bytes}
use Rattle.claims.specs.Owned.{MayClaim}
use Rattle.claims.proofs.ForCallers.{accepted_counts, alive_place, few_owned, may_drop_all}
use Rattle.dependencies.specs.Pending.{pends}
use Rattle.dependencies.proofs.ForCallers.{FewFor, few_counted}
use Rattle.xn_state.proofs.lives.Lives.accept.Goals as goal

pub change-requires-clause-there : goal.change-requires-clause-there
change-requires-clause-there c =
    let alive = subst (λ (xs : Lives). IsTrue (is_some (life_at xs c.args.block))) (sym c.self.view_is) c.requires.alive in
    omega (arith, alive_place c.self.inside.cache c.args.block alive, c.self.invariant.0.long)

pub change-requires-clause-owned : goal.change-requires-clause-owned
change-requires-clause-owned c =
    let alive = subst (λ (xs : Lives). IsTrue (is_some (life_at xs c.args.block))) (sym c.self.view_is) c.requires.alive in
    let may = subst (λ (xs : Lives). MayClaim xs c.args.block c.args.adds.now c.args.drops.now) (sym c.self.view_is) c.requires.claims in
    may_drop_all c.self.inside.owned c.self.inside.cache c.args.block c.args.adds.now c.args.drops.now c.self.invariant.0 (alive_place c.self.inside.cache c.args.block alive) may

pub change-requires-clause-few : goal.change-requires-clause-few
change-requires-clause-few c =
    let alive = subst (λ (xs : Lives). IsTrue (is_some (life_at xs c.args.block))) (sym c.self.view_is) c.requires.alive in
    let long = subst (λ (xs : Lives). length xs ≤ most_blocks) (sym c.self.view_is) c.requires.size in
    let owned = c.self.invariant.0.each c.args.block (alive_place c.self.inside.cache c.args.block alive) in
    omega (arith, long, owned, few_owned c.self.inside.cache c.args.block, c.requires.few_adds)

pub note_entry-requires : goal.note_entry-requires
note_entry-requires c = few_counted c.self.inside.cache c.self.inside.index.pending c.args.fs c.self.invariant.1.counted.counts
    (subst (λ (xs : Lives). FewFor xs c.args.fs) (sym c.self.view_is) c.requires.few)

pub invariant_of-self-2 : goal.invariant_of-self-2
invariant_of-self-2 c =
    let block = c.args.block in
    let cache = c.self.inside.cache in
    let owned = c.self.inside.owned in
    let state = claimed_state c.args.claim (new_bytes c.args.bytes (life_bytes (life_at cache block))) in
    let lives = c.set_owned.ensures
    ∙ ((λ i. owned_after block (c.set_dropped.ensures i) (sym c.requires.adds i))
    ∙ (λ i. owned_after block (dropped_after block (c.in_ok-append.ensures.ok i) (sym c.requires.drops i)) c.args.claim.adds)) in
    let alive = subst (λ (xs : Lives). IsTrue (is_some (life_at xs block))) (sym c.self.view_is) c.requires.alive in
    let may = subst (λ (xs : Lives). MayClaim xs block c.args.adds.now c.args.drops.now) (sym c.self.view_is) c.requires.claims in
    let claimed = subst (λ adds. MayClaim cache block adds c.args.claim.drops) (sym c.requires.adds) (subst (MayClaim cache block c.args.adds.now) (sym c.requires.drops) may) in
    let counts : c.change.new.self ≡ slice_set owned block (slice_index owned block - length c.args.claim.drops + length c.args.claim.adds) = c.change.ensures
    ∙ (λ i. slice_set owned block (slice_index owned block - length (sym c.requires.drops i) + length (sym c.requires.adds i))) in
    let number = c.number-number.ensures ∙ c.entry.ensures in
    let fresh = λ (x : ℕ). (λ i. pends (number i) (life_at (c.self.view_is i) x)) ∙ c.requires.fresh x in
    rw (lives, counts) (
      accepted_counts owned cache block state c.self.invariant.0 (alive_place cache block alive) claimed,
      c.note_entry.ensures cache state c.self.invariant.1 alive (sym number) c.requires.fs fresh,
    )
