use Rattle.std.proofs.Common.{◌<◌, length, get_or, take, sym, subst, arith, All}
use Rattle.std.proofs.lemmas.List.{take_more, take_all}
use Rattle.std.proofs.lemmas.List.Elements.{All-push}
use Rattle.templates.specs.Templates.{IsTemplate}
use Rattle.volume_pair.proofs.kernels.are_templates.Goals as goal

pub loop-at-preserved : goal.loop-at-preserved
loop-at-preserved c =
    let ts = c.args.templates.now in
    let at = c.loop-at.at in
    let within : at < length ts = c.loop-at-test.true in
    subst (All IsTemplate) (sym (take_more ts at c.index-templates-at.result within))
    (All-push IsTemplate (take at ts) (get_or ts at c.index-templates-at.result) c.loop-at.invariant (subst IsTemplate c.index-templates-at.is c.owns-owns.ensures.template))

pub returns : goal.returns
returns c = subst (All IsTemplate) (take_all c.loop-at.at c.args.templates.now (let past = c.loop-at-test.false in omega arith)) c.loop-at.invariant
