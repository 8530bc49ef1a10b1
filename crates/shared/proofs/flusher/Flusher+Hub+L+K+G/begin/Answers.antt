use Rattle.std.proofs.Common.{◌≡◌, ◌∙◌, Some, ap, sym, rules, subst}
use Rattle.xn_model.specs.Calls.{pick_of}
use Rattle.xn_kernel.specs.Kernels.{KernelValue}
use Rattle.shared.specs.Hubs.{HubValue, IsHub}
use Rattle.shared.proofs.Turns.{begin_never_fails, begins}
use Rattle.shared.proofs.flusher.Flusher+Hub+L+K+G.begin.Goals as goal

pub unreachable-requires : goal.unreachable-requires
unreachable-requires g c =
    let hub = c.deref_mut.result.now in
    let same : c.deref-2.result.now ≡ hub = search rules in
    let asked : c.kernel.result.now ≡ hub.kernel = c.kernel.ensures ∙ ap (λ (h : HubValue g.row.L.Denot). h.kernel) same in
    let picked = subst (λ (k : KernelValue g.row.L.Denot). pick_of k.state ≡ Some c.in_ok-block.block) asked (ap pick_of (sym c.state.ensures) ∙ sym c.in_ok-block.ensures) in
    begin_never_fails hub.kernel.state c.begin.new.self.kernel.state c.in_ok-block.block c.in_default.field-0 picked c.in_default.ensures.state

pub returns-clause-begun : goal.returns-clause-begun
returns-clause-begun g c =
    let hub = c.deref_mut.result.now in
    let same : c.deref-2.result.now ≡ hub = search rules in
    let sound : IsHub g.L.Lane.bytes_of g.L.Lane.crash_leaves hub =
    subst (IsHub g.L.Lane.bytes_of g.L.Lane.crash_leaves) (search rules) c.is_sound.ensures in
    let asked : c.kernel.result.now ≡ hub.kernel = c.kernel.ensures ∙ ap (λ (h : HubValue g.row.L.Denot). h.kernel) same in
    let picked = subst (λ (k : KernelValue g.row.L.Denot). pick_of k.state ≡ Some c.in_ok-block.block) asked (ap pick_of (sym c.state.ensures) ∙ sym c.in_ok-block.ensures) in
    begins g.L.Lane.bytes_of g.L.Lane.crash_leaves hub c.begin.new.self.kernel.state c.in_ok-block.block c.in-Ok.ticket sound picked c.in-Ok.ensures.state c.in-Ok.ensures.ticket
