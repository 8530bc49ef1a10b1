use Rattle.std.proofs.Common.{ℕ, ◌<◌, None, sym, subst}
use Rattle.disk.specs.Mem.{MemoryLane}
use Rattle.xn_state.specs.States.{own_types}
use Rattle.xn_kernel.specs.Kernels.{KernelValue}
use Rattle.volume_pair.specs.Kept.{HasLibrary, IsKept}
use Rattle.volume_pair.proofs.shared_files.share.Goals as goal

pub new-requires-clause-has : goal.new-requires-clause-has
new-requires-clause-has g c =
    subst (λ (kernel : KernelValue MemoryLane). HasLibrary (own_types kernel.state) kernel.state) (sym c.in_ok-hub.ensures.kernel) c.in_ok-kernel.ensures.has

pub new-requires-clause-kept : goal.new-requires-clause-kept
new-requires-clause-kept g c =
    subst (λ (kernel : KernelValue MemoryLane). (fs : ℕ) → fs < 32 → IsKept (own_types kernel.state) kernel.state fs None) (sym c.in_ok-hub.ensures.kernel) c.in_ok-kernel.ensures.kept
