use Rattle.std.proofs.Common.{◌∙◌, ap, length, sym, subst}
use Rattle.xn_model.specs.Images.{blocks_in}
use Rattle.xn_model.specs.Lives.{Lives}
use Rattle.xn_model.specs.Rules.{IsConsistent}
use Rattle.claims.proofs.ForCallers.{none_decided}
use Rattle.xn_state.specs.Mounts.{lives_in}
use Rattle.xn_state.specs.States.{own_types}
use Rattle.xn_state.proofs.Keeping.{mounted_consistent, mounted_types, state_of}
use Rattle.xn_state.proofs.state.State.new.Goals as goal

consistent : goal.returns-clause-rules
consistent c =
    subst (λ (lives : Lives). IsConsistent (own_types (state_of lives 1)) (state_of lives 1)) (sym c.in_ok-lives.ensures)
    (mounted_consistent (blocks_in c.args.image.now) (lives_in c.args.image.now c.args.found.now) c.requires.found.sound c.requires.found.recovered)

pub invariant_of-result : goal.invariant_of-result
invariant_of-result c = record {
  rules = consistent c;
  decided = rw c.in_ok-reads.ensures (none_decided (own_types (state_of c.in_ok-lives.lives 1)) c.blocks-2.result c.in_ok-lives.lives (c.blocks-2.ensures ∙ ap length c.lives.view_is));
  own = c.requires.own ∙ sym (ap (λ (lives : Lives). own_types (state_of lives 1)) c.in_ok-lives.ensures
      ∙ mounted_types (blocks_in c.args.image.now) (lives_in c.args.image.now c.args.found.now) c.requires.found.sound c.requires.found.recovered);
}

pub returns-clause-rules : goal.returns-clause-rules
returns-clause-rules c = consistent c
