use Rattle.std.proofs.Common.{◌≡◌, ◌≤◌, ℕ, arith, inr, length, subst, take}
use Rattle.std.proofs.lemmas.List.{length-take}
use Rattle.tree_puts.specs.Arriving.{PutsArrived}
use Rattle.tree_puts.proofs.Performed.{by_plan}
use Rattle.tree_puts.proofs.arriving.Arriving.put_file.Goals as goal

pub returns-then-is_ok-clause-does : goal.returns-then-is_ok-clause-does
returns-then-is_ok-clause-does g c wide =
    let piece = c.read_piece.new.piece in
    let count = c.in-Ok.count in
    let same : length piece ≡ length c.args.piece.now = c.read_piece.auto.piece in
    let few : length (take count piece) ≤ length c.args.piece.now = omega (arith, length-take count piece, same) in
    by_plan (c.put_read-done.ensures.does (omega (arith, same, wide)) c.in-Ok.ensures) (λ actions so. inr (
      take count piece,
      few,
      subst (λ (n : ℕ). PutsArrived c.args.goods n (take count piece) c.put_read-done.result actions) same so,
    ))

pub returns-else-is_ok-clause-does : goal.returns-else-is_ok-clause-does
returns-else-is_ok-clause-does g c wide =
    let piece = c.read_piece.new.piece in
    let count = c.in-Ok.count in
    let same : length piece ≡ length c.args.piece.now = c.read_piece.auto.piece in
    let few : length (take count piece) ≤ length c.args.piece.now = omega (arith, length-take count piece, same) in
    by_plan (c.put_read-done.ensures.does (omega (arith, same, wide)) c.in-Ok.ensures) (λ actions so. inr (
      take count piece,
      few,
      subst (λ (n : ℕ). PutsArrived c.args.goods n (take count piece) c.put_read-done.result actions) same so,
    ))
