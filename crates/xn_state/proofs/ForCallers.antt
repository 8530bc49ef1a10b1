-- What crates above cite in their proofs. They import no other module of these proofs.
pub use Rattle.xn_state.proofs.Answering.{answers_step}
pub use Rattle.xn_state.proofs.Keeping.{forget_types, init_types, make_root_types, propose_types}
