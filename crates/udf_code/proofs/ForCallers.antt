-- What crates above cite in their proofs. They import no other module of these proofs.
pub use Rattle.udf_code.proofs.Coding.{code_is_decoded, decoded_is_code, length-encoded}
pub use Rattle.udf_code.proofs.Read.{one_tree, read_as_plain}
pub use Rattle.udf_code.proofs.Structures.{after_plain, bind_ok, ok_some, programs_are_trees}
