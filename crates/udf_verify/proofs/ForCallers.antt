-- What crates above cite in their proofs. They import no other module of these proofs.
pub use Rattle.udf_verify.proofs.Accepted.{some_verdict, verdict_ok}
pub use Rattle.udf_verify.proofs.Checking.{one_if, plain_if}
pub use Rattle.udf_verify.proofs.Laid.{size-If, size-IfElse, size-Loop, some_is, within_list, word_at}
pub use Rattle.udf_verify.proofs.Parts.{IsSplit, and_true, bind_ok, demand_ok, length-bounds, length-claimed, length-in_loop, length-merge, length-split_first, length-split_other, length-widen, loop_ok, ok_is, placed_ok, split_ok, unless_ok}
