use Rattle.std.proofs.Common.{◌≡◌, ◌∙◌, ◌≤◌, List, Option, ap, arith, length, sym}
use Rattle.std.specs.Prelude.{Bool, false, unwrap_or, slice_get}
use Rattle.std.proofs.lemmas.Bool.{le-ltb}
use Rattle.std.proofs.lemmas.Option.{slice_get_past}
use Rattle.free_map.proofs.MemberRows.{contains_there, length-members_of}
use Rattle.free_map.proofs.set.BlockSet.contains.Goals as goal

pub returns-then-block-self : goal.returns-then-block-self
returns-then-block-self c =
    c.has.ensures
    ∙ (contains_there c.self.inside.bound c.self.inside.words c.self.inside.filled c.self.inside.count c.args.block c.self.invariant
    ∙ ap (λ (s : List Bool). unwrap_or (slice_get s c.args.block) false) c.self.view_is)

pub returns-else-block-self : goal.returns-else-block-self
returns-else-block-self c =
    let long = length-members_of c.self.inside.bound c.self.inside.words in
    let past : length c.args.self.now ≤ c.args.block = omega (arith, long, ap (λ (s : List Bool). length s) c.self.view_is, c.if-block-self.false) in
    le-ltb c.args.block c.self.inside.bound c.if-block-self.false
    ∙ sym (ap (λ (o : Option Bool). unwrap_or o false) (slice_get_past c.args.self.now c.args.block past))
