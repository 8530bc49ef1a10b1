use Rattle.std.proofs.Common.{◌∙◌, ℕ, None, Some, ap, subst, sym}
use Rattle.std.specs.Prelude.{slice_set, unwrap_or}
use Rattle.xn_model.specs.Lives.{Lives, life_at, lowest_free}
use Rattle.xn_model.specs.Calls.{new_life}
use Rattle.block_cache.specs.Systems.{system_of}
use Rattle.claims.proofs.ForCallers.{started_counts}
use Rattle.dependencies.specs.Index.{IsIndex}
use Rattle.dependencies.specs.Pending.{pends}
use Rattle.dependencies.proofs.ForCallers.{FewFor, few_counted, least_is_free}
use Rattle.xn_state.proofs.lives.Lives.start.Goals as goal

pub start-requires : goal.start-requires
start-requires c = least_is_free c.self.inside.cache c.args.block (ap lowest_free c.self.view_is ∙ c.requires.free)

pub note_start-requires : goal.note_start-requires
note_start-requires c = few_counted c.self.inside.cache c.self.inside.index.pending c.args.fs c.self.invariant.1.counted.counts
    (subst (λ (xs : Lives). FewFor xs c.args.fs) (sym c.self.view_is) c.requires.room)

pub invariant_of-self-2 : goal.invariant_of-self-2
invariant_of-self-2 c =
    let cache = c.self.inside.cache in
    let free = least_is_free cache c.args.block (ap lowest_free c.self.view_is ∙ c.requires.free) in
    let fresh = λ (x : ℕ). (λ i. pends (c.number.ensures i) (life_at (c.self.view_is i) x)) ∙ c.requires.fresh x in
    let f = system_of c.args.fs in
    rw c.in_ok-start.ensures.ok (
      started_counts c.self.inside.owned cache c.args.block c.args.number f c.args.ty c.args.bytes.now c.self.invariant.0 (ap (λ o. unwrap_or o None) free),
      subst (λ n. IsIndex (slice_set cache c.args.block (Some (new_life n f c.args.ty c.args.bytes.now))) c.note_start.new.self) c.number.ensures
          (c.note_start.ensures cache c.args.ty c.args.bytes.now c.self.invariant.1 free fresh),
    )
