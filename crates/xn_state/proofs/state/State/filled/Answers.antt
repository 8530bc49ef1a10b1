use Rattle.std.proofs.Common.{◌≡◌, ℕ, List, sym, subst, ◌∙◌, ap, arith, length}
use Rattle.edit_list.proofs.ForCallers.{patches_of_edit}
use Rattle.xn_model.specs.Calls.{Edit, Patch, is_patch, patched}
use Rattle.std.specs.List.{list_all}
use Rattle.xn_model.specs.Lists.{put}
use Rattle.xn_model.specs.Types.{Types}
use Rattle.templates.specs.Decided.{DecidesOwned}
use Rattle.templates.specs.Filled.{Inserts}
use Rattle.udf_run.specs.Safe.{IsBlock}
use Rattle.xn_state.specs.States.{own_types}
use Rattle.xn_state.proofs.Filling.{filled_by}
use Rattle.xn_state.proofs.state.State.filled.Goals as goal

abbrev Left : goal.Then-are_apart → Type 0
Left c =
    let T = own_types c.args.self.now in
    let new = patched c.args.old.now c.args.edit.now.patches in
    Inserts T c.args.ty c.args.old.now c.args.edit.now.adds new × DecidesOwned T c.args.ty new c.in_ok-reads.reads.chunks

left : (c : goal.Then-are_apart) → Left c
left c =
    let T = own_types c.args.self.now in
    let ty = c.args.ty in
    let old = c.args.old.now in
    let edit = c.args.edit.now in
    let chunks = c.in_ok-reads.reads.chunks in
    let first = c.first-item.result in
    let offset : c.from-at.result ≡ first.offset = c.from-at.ensures ∙ ap (λ (p : Patch). p.offset) c.first.view_is in
    let bytes : c.deref.result.now ≡ first.bytes = c.deref.ensures.value ∙ ap (λ (p : Patch). p.bytes) c.first.view_is in
    let written : put old c.from-at.result c.deref.result.now ≡ put old first.offset first.bytes = λ i. put old (offset i) (bytes i) in
    let all = c.as_slice.result.now in
    let same : all ≡ edit.patches = c.as_slice.ensures.value ∙ ap (λ (e : Edit). e.patches) c.edit.view_is in
    let inserts = subst (λ (U : Types). Inserts U ty old c.adds-2.result.now (put old c.from-at.result c.deref.result.now)) c.types.ensures c.in_ok-reads.ensures.pairs in
    let decides = subst (λ (U : Types). DecidesOwned U ty (put old c.from-at.result c.deref.result.now) chunks) c.types.ensures c.in_ok-reads.ensures.reads in
    subst (λ ps. Inserts T ty old edit.adds (patched old ps) × DecidesOwned T ty (patched old ps) chunks) same
    (filled_by T ty chunks old edit.adds all first c.in-len1-up.len_at_least c.first-item.is (omega (arith, c.told-old))
    (ap (list_all is_patch) same ∙ patches_of_edit edit c.requires.limits)
    (subst (λ m. Inserts T ty old edit.adds m) written (subst (λ adds. Inserts T ty old adds (put old c.from-at.result c.deref.result.now)) c.adds-2.ensures inserts))
    (subst (λ m. DecidesOwned T ty m chunks) written decides)
    (c.are_apart.ensures.0 c.if-are_apart.true)
    (subst (λ ps. IsBlock (patched old ps)) (sym same) c.are_bytes.ensures))

pub returns-then-are_apart-clause-inserts : goal.returns-then-are_apart-clause-inserts
returns-then-are_apart-clause-inserts c = (left c).0

pub returns-then-are_apart-clause-reads : goal.returns-then-are_apart-clause-reads
returns-then-are_apart-clause-reads c = (left c).1
