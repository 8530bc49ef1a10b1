use Rattle.std.proofs.Common.{arith, inl, inr}
use Rattle.treefs_laws.proofs.ForCallers.{begun_written}
use Rattle.treefs_session_laws.proofs.Begun.{begun_so}
use Rattle.treefs_session_laws.proofs.Grown.{begun_all}
use Rattle.treefs_session_laws.proofs.puts.sessions_write_begun_inodes.Goals as goal

pub returns-clause-files : goal.returns-clause-files
returns-clause-files c = λ T held old new volume volume' block at bytes result is_open unnamed wide all.
    let is = begun_so T held block
    (λ s s' v at bytes result is_open unnamed wide does. begun_written T s v is_open block unnamed at bytes wide s' result does)
    at bytes old new volume volume' result (is_open, unnamed) wide all in
    (is.is_open, is.files, is.clock, is.unnamed)

pub returns-clause-bytes : goal.returns-clause-bytes
returns-clause-bytes c = λ T held old new volume volume' block inode was bytes is_open begun is wide some all.
    elim (begun_all T held block old new volume volume' inode was bytes (is_open, begun) is wide all) [
      | inl none ↦ absurd (omega (arith, none.0))
      | inr done ↦ done
    ]
