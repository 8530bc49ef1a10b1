use Rattle.std.proofs.Common.{◌≡◌, ℕ, ◌+◌, ◌++◌, ◌∙◌, List, [], ◌∷◌, ap, arith, map, refl, sym, append_assoc}
use Rattle.ffs_lib.proofs.Common.{IfOk-from_err, map-append, names_at, range_with_len}
use Rattle.ffs_lookup.proofs.ForCallers.{place_more, place_past}
use Rattle.ffs_lib.proofs.volume.add_names.Goals as goal

pub returns-in_err-push : goal.returns-in_err-push
returns-in_err-push c = IfOk-from_err c.from_residual-in_err-push.result (λ x. _) c.from_residual-in_err-push.ensures.0

pub loop-place-preserved-then-inode-eq0 : goal.loop-place-preserved-then-inode-eq0
loop-place-preserved-then-inode-eq0 c =
    c.loop-place.invariant
    ∙ ap (λ xs. map (λ name. (name.0.items, name.1)) c.args.names.now.items ++ xs) (place_past c.args.block.now c.loop-place.place (c.loop-place.place + 1) refl (sym c.entry_inode-inode.ensures ∙ c.if-inode-eq0.true))

pub loop-place-preserved : goal.loop-place-preserved
loop-place-preserved c =
    let name = c.in_ok-name.name in
    let inode = c.entry_inode-inode in
    let named : name.items ≡ c.entry_name.result.now = c.in_ok-name.ensures.items_if_clones_equal (λ x y e. e) in
    let one : List (List ℕ × ℕ) = (name.items, inode.result) ∷ [] in
    ap (map (λ name. (name.0.items, name.1))) c.in_ok-push.ensures.items
    ∙ (map-append (λ name. (name.0.items, name.1)) c.loop-place.names.items ((name, inode.result) ∷ [])
    ∙ (ap (λ xs. xs ++ one) c.loop-place.invariant
    ∙ (append_assoc (map (λ name. (name.0.items, name.1)) c.args.names.now.items) (names_at c.args.block.now (range_with_len 0 c.loop-place.place)) one
    ∙ ap (λ xs. map (λ name. (name.0.items, name.1)) c.args.names.now.items ++ xs)
    (place_more c.args.block.now c.loop-place.place (c.loop-place.place + 1) refl name.items inode.result (sym inode.ensures) c.if-inode-eq0.false (sym c.entry_name.ensures ∙ sym named)))))

pub returns : goal.returns
returns c =
    let all : c.loop-place.place ≡ 16 = omega arith in
    c.loop-place.invariant ∙ ap (λ x. map (λ name. (name.0.items, name.1)) c.args.names.now.items ++ names_at c.args.block.now (range_with_len 0 x)) all
