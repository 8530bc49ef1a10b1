-- What crates above cite in their proofs. They import no other module of these proofs.
pub use Rattle.edit_list.proofs.Puts.{length-put, put_inside, put_outside}
pub use Rattle.edit_list.proofs.Undoing.{patches_of_edit, undone}
