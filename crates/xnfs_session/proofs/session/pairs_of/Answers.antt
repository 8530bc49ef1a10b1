use Rattle.std.proofs.Common.{ap, sym, ◌∙◌}
use Rattle.templates.specs.Meaning.{owned_by}
use Rattle.xnfs_session.proofs.Looks.{emitted}
use Rattle.xnfs_session.proofs.session.pairs_of.Goals as goal

pub returns : goal.returns
returns g c =
    emitted c.owns.result.now c.args.bytes.now c.owns-2.new.out.items c.owns-2.ensures.pairs
    ∙ (ap (λ p. owned_by p c.args.bytes.now) c.owns.ensures.value ∙ sym (c.in-Some.ensures.template.owned c.args.bytes.now))
