-- What crates above cite in their proofs. They import no other module of these proofs.
pub use Rattle.ffs_lookup.proofs.Finding.{direct_has, entry_is, found_has, found_mode, free_mode, pointer_is}
pub use Rattle.ffs_lookup.proofs.Newest.{block_again, directory_again, directory_is, file_is, good_number, in_directory, in_file, in_inode_block, in_root_block, is_numbered, kind_known, kind_told, no_inode_block, no_number, no_root_block, not_both, not_ok, not_zero, root_again, unused_is, used_is, zero_is}
pub use Rattle.ffs_lookup.proofs.Counting.{contained, least_none}
pub use Rattle.ffs_lookup.proofs.Repairing.{HasSpareLinks, IsUnnamed, given_up, links_set, unnumbered_repair}
pub use Rattle.ffs_lookup.proofs.Finds.{find_on, found_holds, map_on}
pub use Rattle.ffs_lookup.proofs.Rooms.{find_first, find_none}
pub use Rattle.ffs_lookup.proofs.Stores.{gives_err, gives_ok}
pub use Rattle.ffs_lookup.proofs.Walks.{badly_named, first_names, if_some_ok, named_is, names_are, names_more, names_past, no_names, nothing_named, place_more, place_past, same_ok}
pub use Rattle.ffs_lookup.proofs.ValueCalls.{count_told, created_ok, created_told, has_root, into_told, listed_told, written_told}
pub use Rattle.ffs_lookup.proofs.ValueNames.{bare_is, both_found, both_parts, if_both, named_told, removed_ok, removed_told, renamed_ok, renamed_told, unlinked_ok, unlinked_told}
pub use Rattle.ffs_lookup.proofs.ValuePlaces.{EntryAt, IsPlaceOf, block_here, first_value, put_is, room_is, room_known, room_of}
pub use Rattle.ffs_lookup.proofs.Values.{directory_parts, file_found, file_parts, value_by_place, value_found, value_outside, value_there, value_used}
