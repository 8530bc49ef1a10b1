use Rattle.std.proofs.Common.{◌∙◌, ap, sym, slice_get}
use Rattle.std.specs.Prelude.{option_map}
use Rattle.std.specs.Option.{option_copied}
use Rattle.xn_model.specs.Lives.{Life}
use Rattle.block_cache.specs.Cached.{CachedLife}
use Rattle.block_cache.specs.declared.entry.Entry.{Entry}
use Rattle.block_cache.specs.Claims.{claim_of}
use Rattle.block_cache.proofs.Starts.{claim_there, key_claim}
use Rattle.block_cache.proofs.live_block.LiveBlock.claim.Goals as goal

pub returns-in_err-entry : goal.returns-in_err-entry
returns-in_err-entry c =
    let slab = c.self.inside.entries.now in
    ap option_copied c.from_residual.ensures
    ∙ (ap (option_map (λ (e : Entry). e.claim)) c.in_err-entry.ensures
    ∙ (ap (λ ks. key_claim slab ks c.args.place) (c.deref.ensures.value ∙ ap (λ (l : CachedLife). l.keys) c.life.view_is)
    ∙ (sym (claim_there slab c.self.invariant.0 c.self.inside.life.now c.args.place c.self.invariant.1)
    ∙ ap (λ (l : Life). option_map claim_of (slice_get l.pending c.args.place)) c.self.view_is)))

pub returns : goal.returns
returns c =
    let slab = c.self.inside.entries.now in
    ap (option_map (λ (e : Entry). e.claim)) c.in_ok-entry.ensures
    ∙ (ap (λ ks. key_claim slab ks c.args.place) (c.deref.ensures.value ∙ ap (λ (l : CachedLife). l.keys) c.life.view_is)
    ∙ (sym (claim_there slab c.self.invariant.0 c.self.inside.life.now c.args.place c.self.invariant.1)
    ∙ ap (λ (l : Life). option_map claim_of (slice_get l.pending c.args.place)) c.self.view_is))
