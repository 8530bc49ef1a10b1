use Rattle.std.proofs.Common.{◌∙◌, ◌-◌, Some, ap, slice_get}
use Rattle.std.specs.Prelude.{option_map}
use Rattle.xn_model.specs.Lives.{Life, StoreState, life_at}
use Rattle.xn_model.specs.Calls.{life_pending}
use Rattle.xn_model.specs.PendingIn.{newest_entry, newest_entry_of}
use Rattle.block_cache.specs.Claims.{claim_of}
use Rattle.block_cache.specs.Views.{pending_at}
use Rattle.block_cache.specs.declared.life.Facts.{Facts}
use Rattle.xn_state.specs.declared.state.State.TheInside.{Inside}
use Rattle.xn_state.proofs.NewestEntries.{newest_claimed}
use Rattle.xn_state.proofs.state.State.newest_entry.Goals as goal

pub returns : goal.returns
returns c =
    let count = c.facts-count.result.pending in
    let life = Some c.in_ok-life.life in
    ap Some c.entry.ensures
    ∙ (newest_claimed life count c.in_ok-claim.field-0.now (ap (λ (f : Facts). f.pending) c.facts-count.ensures.facts) c.in_ok-claim.ensures
    ∙ (ap newest_entry c.in_ok-life.ensures
    ∙ (ap (λ (at : Inside). newest_entry (life_at at.lives c.args.block)) c.self-inside.view_is
    ∙ ap (λ (s : StoreState). newest_entry_of s c.args.block) c.self.view_is)))
