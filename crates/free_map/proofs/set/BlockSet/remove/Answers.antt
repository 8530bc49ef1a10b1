use Rattle.std.proofs.Common.{◌/◌, ◌<◌, ◌∙◌, ap, sym, arith, List, length}
use Rattle.std.specs.Prelude.{Bool, false, not, slice_set, slice_index}
use Rattle.free_map.proofs.MemberRows.{removed, members_of-set, members_of-same, length-members_of, count-some, not-blank}
use Rattle.free_map.proofs.set.BlockSet.remove.Goals as goal

pub has-requires : goal.has-requires
has-requires c =
    omega (arith, c.requires, ap (λ (s : List Bool). length s) c.self.view_is, length-members_of c.self.inside.bound c.self.inside.words, c.self.invariant.room)

pub overflow_sub-self : goal.overflow_sub-self
overflow_sub-self c =
    let within : c.args.block < c.self.inside.bound = omega (arith, c.requires, ap (λ (s : List Bool). length s) c.self.view_is, length-members_of c.self.inside.bound c.self.inside.words) in
    omega (arith, count-some c.self.inside.bound c.self.inside.words c.args.block within (sym c.if-has.ensures), c.self.invariant.counted)

pub invariant_of-self : goal.invariant_of-self
invariant_of-self c =
    let within : c.args.block < c.self.inside.bound = omega (arith, c.requires, ap (λ (s : List Bool). length s) c.self.view_is, length-members_of c.self.inside.bound c.self.inside.words) in
    removed c.self.inside.bound c.self.inside.words c.self.inside.filled c.put.new.self c.put-then-has.new.self c.self.inside.count c.args.block _ c.self.invariant within
    (sym c.if-has.ensures) c.put.ensures c.put-then-has.ensures (ap not c.is_blank-is_blank.ensures ∙ not-blank (slice_index c.put.new.self (c.args.block / 64)))

pub returns-then-has : goal.returns-then-has
returns-then-has c =
    let within : c.args.block < c.self.inside.bound = omega (arith, c.requires, ap (λ (s : List Bool). length s) c.self.view_is, length-members_of c.self.inside.bound c.self.inside.words) in
    members_of-set c.self.inside.bound c.self.inside.words c.put.new.self c.args.block false within c.put.ensures
    ∙ ap (λ (s : List Bool). slice_set s c.args.block false) c.self.view_is

pub returns-else-has : goal.returns-else-has
returns-else-has c =
    let within : c.args.block < c.self.inside.bound = omega (arith, c.requires, ap (λ (s : List Bool). length s) c.self.view_is, length-members_of c.self.inside.bound c.self.inside.words) in
    sym c.self.view_is
    ∙ (members_of-same c.self.inside.bound c.self.inside.words c.args.block false within (sym c.if-has.ensures)
    ∙ ap (λ (s : List Bool). slice_set s c.args.block false) c.self.view_is)
