use Rattle.std.proofs.Common.{◌<◌, ◌∙◌, ap, sym, arith, List, length}
use Rattle.std.specs.Prelude.{Bool, true, slice_set}
use Rattle.free_map.proofs.MemberRows.{inserted, members_of-set, members_of-same, length-members_of, count-room}
use Rattle.free_map.proofs.set.BlockSet.insert.Goals as goal

pub has-requires : goal.has-requires
has-requires c =
    omega (arith, c.requires, ap (λ (s : List Bool). length s) c.self.view_is, length-members_of c.self.inside.bound c.self.inside.words, c.self.invariant.room)

pub put-requires : goal.put-requires
put-requires c =
    omega (arith, c.requires, ap (λ (s : List Bool). length s) c.self.view_is, length-members_of c.self.inside.bound c.self.inside.words, c.self.invariant.room)

pub overflow_add-self : goal.overflow_add-self
overflow_add-self c =
    let within : c.args.block < c.self.inside.bound = omega (arith, c.requires, ap (λ (s : List Bool). length s) c.self.view_is, length-members_of c.self.inside.bound c.self.inside.words) in
    omega (arith, count-room c.self.inside.bound c.self.inside.words c.args.block within (sym c.if-not-has.ensures), c.self.invariant.counted)

pub invariant_of-self : goal.invariant_of-self
invariant_of-self c =
    let within : c.args.block < c.self.inside.bound = omega (arith, c.requires, ap (λ (s : List Bool). length s) c.self.view_is, length-members_of c.self.inside.bound c.self.inside.words) in
    inserted c.self.inside.bound c.self.inside.words c.self.inside.filled c.put.new.self c.put-then-not-has.new.self c.self.inside.count c.args.block c.self.invariant within
    (sym c.if-not-has.ensures) c.put.ensures c.put-then-not-has.ensures

pub returns-then-not-has : goal.returns-then-not-has
returns-then-not-has c =
    let within : c.args.block < c.self.inside.bound = omega (arith, c.requires, ap (λ (s : List Bool). length s) c.self.view_is, length-members_of c.self.inside.bound c.self.inside.words) in
    members_of-set c.self.inside.bound c.self.inside.words c.put.new.self c.args.block true within c.put.ensures
    ∙ ap (λ (s : List Bool). slice_set s c.args.block true) c.self.view_is

pub returns-else-not-has : goal.returns-else-not-has
returns-else-not-has c =
    let within : c.args.block < c.self.inside.bound = omega (arith, c.requires, ap (λ (s : List Bool). length s) c.self.view_is, length-members_of c.self.inside.bound c.self.inside.words) in
    sym c.self.view_is
    ∙ (members_of-same c.self.inside.bound c.self.inside.words c.args.block true within (sym c.if-not-has.ensures)
    ∙ ap (λ (s : List Bool). slice_set s c.args.block true) c.self.view_is)
