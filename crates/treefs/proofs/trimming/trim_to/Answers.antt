use Rattle.std.proofs.Common.{◌≡◌, ◌∙◌, Err, Ok, inl, inr, subst}
use Rattle.xn_model.specs.Types.{Types}
use Rattle.treefs.specs.Trimming.{Drops, Roots, Waits, most_drops}
use Rattle.treefs.proofs.trimming.trim_to.Goals as goal

pub returns-in-Err-drop_pointers-clause-does : goal.returns-in-Err-drop_pointers-clause-does
returns-in-Err-drop_pointers-clause-does g c =
    let s0 = g.S.Store.state_of c.args.store.now in
    let s1 = g.S.Store.state_of c.blank.new.store in
    let s2 = g.S.Store.state_of c.drop_pointers.new.store in
    let drops = subst (λ (t : Types). Drops t c.args.tree.fs.number c.args.memory.now c.args.kept most_drops s1 s2 (Err c.in-Err-drop_pointers.fault)) c.blank.ensures.types
    c.in-Err-drop_pointers.ensures.does in
    inr (s0, c.in_default.ensures, inr (s1, c.in_default-blank.ensures.does, inl drops))

pub returns-in-Err-drop_roots-clause-does : goal.returns-in-Err-drop_roots-clause-does
returns-in-Err-drop_roots-clause-does g c =
    let T = g.S.Store.types_of c.args.store.now in
    let s0 = g.S.Store.state_of c.args.store.now in
    let s1 = g.S.Store.state_of c.blank.new.store in
    let s2 = g.S.Store.state_of c.drop_pointers.new.store in
    let s3 = g.S.Store.state_of c.drop_roots.new.store in
    let types : g.S.Store.types_of c.drop_pointers.new.store ≡ T = c.drop_pointers.ensures.types ∙ c.blank.ensures.types in
    let drops = subst (λ (t : Types). Drops t c.args.tree.fs.number c.args.memory.now c.args.kept most_drops s1 s2 (Ok tt)) c.blank.ensures.types
    c.in_default-drop_pointers.ensures.does in
    let roots = subst (λ (t : Types). Roots t c.args.tree.fs.number c.args.kept s2 s3 (Err c.in-Err-drop_roots.fault)) types c.in-Err-drop_roots.ensures.does in
    inr (s0, c.in_default.ensures, inr (s1, c.in_default-blank.ensures.does, inr (s2, drops, inl roots)))

pub returns-clause-does : goal.returns-clause-does
returns-clause-does g c =
    let T = g.S.Store.types_of c.args.store.now in
    let s0 = g.S.Store.state_of c.args.store.now in
    let s1 = g.S.Store.state_of c.blank.new.store in
    let s2 = g.S.Store.state_of c.drop_pointers.new.store in
    let s3 = g.S.Store.state_of c.drop_roots.new.store in
    let s4 = g.S.Store.state_of c.wait_for_path.new.store in
    let types2 : g.S.Store.types_of c.drop_pointers.new.store ≡ T = c.drop_pointers.ensures.types ∙ c.blank.ensures.types in
    let types3 : g.S.Store.types_of c.drop_roots.new.store ≡ T = c.drop_roots.ensures.types ∙ types2 in
    let drops = subst (λ (t : Types). Drops t c.args.tree.fs.number c.args.memory.now c.args.kept most_drops s1 s2 (Ok tt)) c.blank.ensures.types
    c.in_default-drop_pointers.ensures.does in
    let roots = subst (λ (t : Types). Roots t c.args.tree.fs.number c.args.kept s2 s3 (Ok tt)) types2 c.in_default-drop_roots.ensures.does in
    let waits = subst (λ (t : Types). Waits t c.args.tree.fs.number c.args.kept s3 s4 c.wait_for_path.result) types3 c.wait_for_path.ensures.does in
    inr (s0, c.in_default.ensures, inr (s1, c.in_default-blank.ensures.does, inr (s2, drops, inr (s3, roots, waits))))
