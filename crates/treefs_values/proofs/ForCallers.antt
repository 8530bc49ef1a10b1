-- What crates above cite in their proofs. They import no other module of these proofs.

-- what is read
pub use Rattle.treefs_values.proofs.Alike.{IsAlike, bucket_same, in_leaf}
pub use Rattle.treefs_values.proofs.Entries.{same_bytes, same_eq}
pub use Rattle.treefs_values.proofs.Elsewhere.{file_read, inode_numbered}
pub use Rattle.treefs_values.proofs.Listed.{IsLiveEntry, has_of, live_leads, number_stands}
pub use Rattle.treefs_values.proofs.Named.{candidates_few}
pub use Rattle.treefs_values.proofs.Numbers.{among_numbers}
pub use Rattle.treefs_values.proofs.Ways.{counted, steps_way}
pub use Rattle.treefs_values.proofs.Paths.{onto, way_first}
pub use Rattle.treefs_values.proofs.MissingPaths.{IsPathTo, path_to}
pub use Rattle.treefs_values.proofs.FoundEntries.{IsEntry, IsFound, directory_is, entry_is, found_inode}
pub use Rattle.treefs_values.proofs.LookUps.{inodes_found, numbers_found, numbers_named}
-- edits of one block
pub use Rattle.treefs_values.proofs.NamesEnd.{links_make, name_ended, name_led, same_size}
pub use Rattle.treefs_values.proofs.Readings.{acts_read, kinds_are, may_read, readable_is}
pub use Rattle.treefs_values.proofs.ManyChanges.{changes_keep, fields_changed, file_resized}
pub use Rattle.treefs_values.proofs.NewInodes.{bare_inode, bare_node, inode_small, new_free, new_value, node_small, way_none}
pub use Rattle.treefs_values.proofs.PointerSet.{inode_offset, low_offset, pointer_attached}
pub use Rattle.treefs_values.proofs.EmptyBlocks.{empty_attached}
-- edits one after another
pub use Rattle.treefs_values.proofs.Standing.{IsKeptInode, KeepsInodes, KeepsNames, inodes_stay, inodes_then}
pub use Rattle.treefs_values.proofs.Numbering.{IsTold, new_told}
pub use Rattle.treefs_values.proofs.Since.{IsRead, IsSince, above_read}
pub use Rattle.treefs_values.proofs.Pending.{AreNew, IsNew, IsOther, New, all_front, new_kept, new_parts}
pub use Rattle.treefs_values.proofs.Walks.{AreBegun, AreOf, IsAt, IsEdit, IsFineStart, begun_so, edit_is, of_long, of_parts, ran_parts}
pub use Rattle.treefs_values.proofs.Chains.{blocks_in}
pub use Rattle.treefs_values.proofs.Placing.{AreFree, IsBehind, IsDirectoryAt, IsOwn, IsPlace, directory_kept, directory_names, directory_stays, free_stays, made_behind, place_stays, placed_files, placed_here, placed_so}
pub use Rattle.treefs_values.proofs.Placing.{rewritten_behind, rewritten_directory, rewritten_files, rewritten_here, rewritten_inode, rewritten_changed, rewritten_keeps, rewritten_points, rewritten_some, rewritten_ways}
pub use Rattle.treefs_values.proofs.Tabled.{IsLeafed, IsTabled, leafed_so, tabled_so}
pub use Rattle.treefs_values.proofs.Fielding.{fields_files, fields_here, fields_inode, fields_keep, fields_key, fields_numbered}
pub use Rattle.treefs_values.proofs.FoundStill.{entry_still, found_still}
pub use Rattle.treefs_values.proofs.Moving.{Stands, same_bucket, stands_alike, stands_found, stands_names, stands_other, stands_there}
pub use Rattle.treefs_values.proofs.Moving.{placed_keeps, rewriting_numbered, rewriting_own, rewriting_stands, set_beside, set_directory, set_files, set_numbered, set_others, set_place, set_volume, written_twice}
-- blocks that are dropped, and bytes that are put
pub use Rattle.treefs_values.proofs.Cleared.{cleared_whole, pointers_cleared}
pub use Rattle.treefs_values.proofs.DroppedRead.{IsDrop, drop_is}
pub use Rattle.treefs_values.proofs.Dropping.{dropped_fields, dropped_files, dropped_numbered, dropped_volume}
pub use Rattle.treefs_values.proofs.BytesPut.{byte_put, inside, new as put_new, outside, put_in, stands}
pub use Rattle.treefs_values.proofs.BytesWritten.{files_put, listed_resized, same_listed, volume_put}
pub use Rattle.treefs_values.proofs.Ways.{inode_pointer, node_pointer, numbered_same, tree_way}
