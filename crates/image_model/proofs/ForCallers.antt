-- What crates above cite in their proofs. They import no other module of these proofs.
pub use Rattle.image_model.proofs.Adds.{add-again, add-new, add-no_type, add-not_installed, add-past, add-zero}
pub use Rattle.image_model.proofs.Blocks.{block-long, length-blocks}
pub use Rattle.image_model.proofs.Faults.{verdict-by-image}
pub use Rattle.image_model.proofs.Founds.{findings-more, verdict-findings}
pub use Rattle.image_model.proofs.Judged.{entry-names, verdict-sound, verdict-unsound}
pub use Rattle.image_model.proofs.Members.{get-map, member-at}
pub use Rattle.image_model.proofs.Roots.{Valid-root, entries-end, entries-fault, entries-more, free-named, free-other, names-end, names-fault, names-more, range-push, reached-more, root-names, root-wrong, verdict-catalogue, verdict-head, verdict-walk, walk_all-fault, walk_all-more}
pub use Rattle.image_model.proofs.Steps.{Valid-length, Valid-take_in, walk-end, walk-step}
pub use Rattle.image_model.proofs.Whole.{member-range}
