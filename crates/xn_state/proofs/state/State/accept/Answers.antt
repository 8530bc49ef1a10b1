use Rattle.std.proofs.Common.{◌∙◌, ap, slice_set, sym, subst}
use Rattle.xn_model.specs.Lives.{StoreState, accepted_at, life_at}
use Rattle.xn_model.specs.Calls.{accepts, life_bytes}
use Rattle.block_cache.specs.NewBytes.{new_bytes}
use Rattle.block_cache.specs.Claims.{ClaimValue, claimed_state}
use Rattle.xn_state.specs.Proposals.{accepted_entry}
use Rattle.xn_state.specs.States.{Continues, own_types}
use Rattle.claims.specs.Decided.{Decides}
use Rattle.claims.proofs.ForCallers.{accepted_decided}
use Rattle.dependencies.specs.Pending.{pends}
use Rattle.xn_state.proofs.Keeping as keeping
use Rattle.xn_state.proofs.Newest.{none_next}
use Rattle.xn_state.proofs.state.State.accept.Goals as goal

pub invariant_of-self-2 : goal.invariant_of-self-2
invariant_of-self-2 c =
    let old = keeping.state_of c.self.inside.lives c.self.inside.next in
    let bytes = λ (s : StoreState). new_bytes c.args.bytes (life_bytes (life_at s.lives c.args.block)) in
    let entry = accepted_entry old c.args.fs.number (bytes old) c.args.claims.adds.now c.args.claims.drops.now c.args.claims.after in
    let kept = subst (λ (s : StoreState). Continues s (accepts s c.args.block (accepted_entry s c.args.fs.number (bytes s) c.args.claims.adds.now c.args.claims.drops.now c.args.claims.after)).1)
    (sym c.self.view_is) c.requires.continues in
    let lives = c.in-Ok-accept.ensures.ok ∙ ap (λ (claim : ClaimValue). accepted_at c.self.inside.lives c.args.block (claimed_state claim (bytes old))) c.in-Ok.ensures in
    let decides = subst (λ (s : StoreState). Decides (own_types s) s.lives c.args.block (bytes s) c.args.reads) (sym c.self.view_is) c.requires.reads in
    let decided = accepted_decided (own_types old) c.self.inside.reads c.self.inside.lives c.args.block entry c.args.reads c.self.invariant.decided decides in
    rw (c.set.ensures, lives) (keeping.goes_on c.self.inside.table c.self.inside.reads (slice_set c.self.inside.reads c.args.block c.args.reads) old (accepts old c.args.block entry).1 c.self.invariant kept decided)

pub accept-requires-clause-fresh : goal.accept-requires-clause-fresh
accept-requires-clause-fresh c =
    let lives = c.self.inside.lives in
    let old = keeping.state_of lives c.self.inside.next in
    λ b. ap (λ (claim : ClaimValue). pends claim.entry (life_at lives b)) c.in-Ok.ensures ∙ none_next (own_types old) old c.self.invariant.rules b
