use Rattle.std.proofs.Common.{arith, subst}
use Rattle.treefs_format.specs.Paths.{leaf_count}
use Rattle.treefs_lookup.specs.Numbers.{IsNextFree, NoneCanGive}
use Rattle.treefs_lookup.proofs.FreeNumbers.{first_number, next_number}
use Rattle.treefs_lookup.proofs.numbers.find_number.Goals as goal

pub returns-in-Ok-next_free : goal.returns-in-Ok-next_free
returns-in-Ok-next_free g c =
    first_number (g.S.Store.state_of c.args.store.now) c.args.fs.number c.args.top c.args.hint c.in-Ok-next_free.leaf
    (subst (λ n. NoneCanGive (g.S.Store.state_of c.args.store.now) c.args.fs.number c.args.top n leaf_count) c.saturating_sub.ensures c.in_default.ensures.none)
    c.in-Ok-next_free.ensures

pub returns-in-Ok : goal.returns-in-Ok
returns-in-Ok g c =
    next_number (g.S.Store.state_of c.args.store.now) c.args.fs.number c.args.top c.args.hint c.in-Ok.leaf
    (subst (λ n. IsNextFree (g.S.Store.state_of c.args.store.now) c.args.fs.number c.args.top n c.in-Ok.leaf) c.saturating_sub.ensures c.in-Ok.ensures)

pub overflow_add-result : goal.overflow_add-result
overflow_add-result g c = let few = c.in-Ok.ensures.few in omega arith
