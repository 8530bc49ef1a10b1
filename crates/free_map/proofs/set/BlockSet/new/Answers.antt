use Rattle.std.proofs.Common.{◌∙◌, ap, sym, subst, arith, List, ℕ, ◌+◌, ◌/◌}
use Rattle.free_map.specs.Members.{members_of, AreMembers}
use Rattle.free_map.proofs.BitRows.{blank_words}
use Rattle.free_map.proofs.MemberRows.{members_of-blank, empty}
use Rattle.free_map.proofs.set.BlockSet.new.Goals as goal

pub invariant_of-result : goal.invariant_of-result
invariant_of-result c =
    let P : List ℕ → Type 0 = λ ws. AreMembers c.args.bound ws c.in_ok-new-2.field-0 0 in
    let Q : List ℕ → Type 0 = λ ws. AreMembers c.args.bound (blank_words (c.args.bound / 64 + 1)) ws 0 in
    subst P (sym c.in_ok-new.ensures)
    (subst Q (sym c.in_ok-new-2.ensures) (empty c.args.bound (c.args.bound / 64 + 1) ((c.args.bound / 64 + 1) / 64 + 1) (omega arith) (omega arith) (omega (arith, c.ranges.bound.fits)) (omega (arith, c.ranges.bound.fits))))

pub returns : goal.returns
returns c = ap (members_of c.args.bound) c.in_ok-new.ensures ∙ members_of-blank c.args.bound _
