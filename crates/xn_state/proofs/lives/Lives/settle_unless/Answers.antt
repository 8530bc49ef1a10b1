use Rattle.std.proofs.Common.{◌≡◌, ◌∙◌, ap, subst, sym}
use Rattle.std.specs.Option.{option_copied}
use Rattle.std.specs.Prelude.{Ok, slice_get, unwrap_or}
use Rattle.xn_model.specs.Lives.{Lives, drops_of, life_at}
use Rattle.xn_model.specs.Calls.{first_pending, life_bytes, settled_count, settled_place}
use Rattle.claims.proofs.ForCallers.{settled_counts}
use Rattle.dependencies.specs.Index.{IsIndex, MayFree}
use Rattle.xn_state.proofs.Writing.{place_in_use}
use Rattle.xn_state.proofs.lives.Lives.settle_unless.Goals as goal

pub invariant_of-self : goal.invariant_of-self
invariant_of-self c =
    let cache = c.self.inside.cache in
    let block = c.args.block in
    let life = c.in-Some.life in
    let count = c.in_ok-count.count in
    let there = place_in_use cache block life c.in-Some.ensures in
    let place : settled_place (unwrap_or (option_copied c.args.other) (life_bytes (life_at cache block))) (slice_get cache block) ≡ Ok count =
    ap (settled_place (unwrap_or (option_copied c.args.other) (life_bytes (life_at cache block)))) there
    ∙ (ap (λ o. settled_count life (unwrap_or (option_copied c.args.other) (life_bytes o)) life.begun) (sym c.in-Some.ensures)
    ∙ sym c.in_ok-count.ensures.count) in
    let may = subst
    (λ (xs : Lives). settled_place (unwrap_or (option_copied c.args.other) (life_bytes (life_at xs block))) (slice_get xs block) ≡ Ok count → MayFree xs block (drops_of (first_pending count (life_at xs block))))
    (sym c.self.view_is) (c.requires.drops count) place in
    rw c.end_write-freed.ensures.lives (
      settled_counts c.self.inside.owned cache block count (drops_of (first_pending count (life_at cache block))) c.self.invariant.0 may.unowned,
      subst (λ (xs : Lives). IsIndex xs c.note_settle.new.self) c.end_write-freed.ensures.lives c.note_settle.ensures.index,
    )
