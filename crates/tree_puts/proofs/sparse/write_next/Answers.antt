use Rattle.std.proofs.Common.{◌≡◌, ◌∙◌, ◌<◌, ℕ, List, ap, length, map, refl, rules, subst, sym}
use Rattle.tree_puts.specs.Arriving.{WritesEach, written}
use Rattle.tree_puts.specs.Holes.{is_open_with, is_piece_open}
use Rattle.tree_puts.proofs.Arrivals.{ok_so}
use Rattle.tree_puts.proofs.HolePieces.{no_bytes, opens_with, some_bytes, stays_open}
use Rattle.tree_puts.proofs.Performed.{by_plan, none_done}
use Rattle.tree_puts.proofs.sparse.write_next.Goals as goal

pub returns-then-is_empty-clause-does : goal.returns-then-is_empty-clause-does
returns-then-is_empty-clause-does g c =
    let none : length c.args.written.1.now ≡ 0 = search rules in
    none_done refl refl (ap (λ (l : List (ℕ × List ℕ)). map (written c.args.begun.1) l) (sym (no_bytes c.args.written.0 c.args.written.1.now none)))

pub returns-then-is_empty-clause-left : goal.returns-then-is_empty-clause-left
returns-then-is_empty-clause-left g c =
    let none : length c.args.written.1.now ≡ 0 = search rules in
    sym (stays_open c.args.was_open c.args.written.0 c.args.written.1.now none)

pub returns-clause-does : goal.returns-clause-does
returns-clause-does g c =
    let some : 0 < length c.args.written.1.now = search rules in
    by_plan c.write_piece.ensures.does (λ actions so.
    subst (λ (l : List (ℕ × List ℕ)). WritesEach c.args.begun.1 l c.write_piece.result actions)
    (sym (some_bytes c.args.written.0 c.args.written.1.now some)) so)

pub returns-clause-left : goal.returns-clause-left
returns-clause-left g c =
    let some : 0 < length c.args.written.1.now = search rules in
    ok_so (λ left. left ≡ is_piece_open c.args.written.0 c.args.written.1.now)
    (λ left. left ≡ is_open_with c.args.was_open c.args.written.0 c.args.written.1.now) c.write_piece.result
    (λ left is. is ∙ sym (opens_with c.args.was_open c.args.written.0 c.args.written.1.now some)) c.write_piece.ensures.left
