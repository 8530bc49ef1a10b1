use Rattle.std.proofs.Common.{◌≡◌, ◌≤◌, ◌-◌, ◌++◌, length, replicate, None, vec_len, vec_capacity}
use Rattle.world.proofs.tickets.make_places.Given as goal

abbrev pub invariant-loop-place : goal.invariant-loop-place
invariant-loop-place g l =
    (l.front.items ≡ l.fn.front.items ++ replicate (l._place - length l.fn.front.items) None) × (vec_capacity l.front ≡ vec_capacity l.fn.front)
    × (vec_len l.front ≡ l._place) × (length l.fn.front.items ≤ l._place)
    × (l._place - length l.fn.front.items ≤ l.count - length l.fn.front.items)
