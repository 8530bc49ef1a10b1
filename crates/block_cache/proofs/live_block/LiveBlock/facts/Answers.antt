use Rattle.std.proofs.Common.{◌≡◌, ◌∙◌, ℕ, ap, arith, length, sym}
use Rattle.xn_model.specs.Lives.{Life}
use Rattle.block_cache.specs.Cached.{CachedLife}
use Rattle.block_cache.specs.Views.{facts_of}
use Rattle.block_cache.specs.declared.life.Facts.{Facts}
use Rattle.block_cache.proofs.Starts.{facts_there}
use Rattle.block_cache.proofs.live_block.LiveBlock.facts.Goals as goal

abbrev facts_with : CachedLife → ℕ → Facts
facts_with l count = record { ty = l.ty; status = l.status; is_durable = l.is_durable; pending = count; begun = l.begun }

pub returns-clause-facts : goal.returns-clause-facts
returns-clause-facts c =
    let count : c.len.result ≡ length c.life.inside.keys.items = omega (arith, c.len.ensures) in
    (λ i. facts_with (c.life.view_is i) (count i))
    ∙ (ap (λ (l : CachedLife). facts_with c.self.inside.life.now (length l.keys)) c.life.view_is
    ∙ (sym (facts_there c.self.inside.entries.now c.self.invariant.0 c.self.inside.life.now c.self.invariant.1) ∙ ap (λ (l : Life). facts_of l) c.self.view_is))
