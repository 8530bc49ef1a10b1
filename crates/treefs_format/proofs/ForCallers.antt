-- What crates above cite in their proofs. They import no other module of these proofs.
pub use Rattle.treefs_format.proofs.Puts.{length-words_at, words_get}
pub use Rattle.treefs_format.proofs.Changes.{fields_read}
pub use Rattle.treefs_format.proofs.Stated.{candidate_below, content_others, content_written, fields_made, fields_others, inode_content, inode_long, inode_pointers, leaves_beside}
pub use Rattle.treefs_format.proofs.Stated.{mode_kind, mode_permissions, mode_short, node_children, node_long, paths_once, pointers_others, records_made, records_whole}
pub use Rattle.treefs_format.proofs.Loops.{ends_within}
pub use Rattle.treefs_format.proofs.Made.{Renumbered, blank_at, blank_drop, blank_none, made_read, no_length, numbered, renumbered_entries, renumbered_read, renumbered_whole, rewritten_read}
pub use Rattle.treefs_format.proofs.Parsed.{Fits, IsByte}
