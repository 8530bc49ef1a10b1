-- What crates above cite in their proofs, by subject. They import no other module of these proofs.

-- cuts and what is reached
pub use Rattle.ffs_model.proofs.Chosen.{chosen_in, everything, everything_cut, everything_full, everything_seen, everything_taken, full_chosen, full_seen, seen_chosen}
pub use Rattle.ffs_model.proofs.Accepted.{cut_before, full_before, full_took, more, seen_other, seen_untook, takes_before, takes_took, took_adds, took_after, took_full, took_full_before, took_now}
pub use Rattle.ffs_model.proofs.Foreign.{start_cut, takes_then}
pub use Rattle.ffs_model.proofs.Same.{under_direct, under_inodes}
pub use Rattle.ffs_model.proofs.Newest.{data_owned, indirect_owned, indirect_reached, one_type, proposed_here, proposed_others, rooted_here, rooted_others, started_here, started_others}
pub use Rattle.ffs_model.proofs.Found.{read_latest, root_found}
pub use Rattle.ffs_model.proofs.Volumes.{latest_reached, volume_from}
pub use Rattle.ffs_model.proofs.Slots.{one_more}
pub use Rattle.ffs_model.proofs.Standing.{stands_cleared, stands_first, stands_other, stands_turned}
-- the layout
pub use Rattle.ffs_model.proofs.Library.{is_not_empty, library_reads, map_at, pointed_at, pointed_from}
pub use Rattle.ffs_model.proofs.Patches.{blocks_read, bytes_apart, bytes_within, entry_written, half_apart, half_within, links_read, mode_read, number_written, pointer_written, word_apart, word_part, word_within}
pub use Rattle.ffs_model.proofs.Zeros.{one_entry, one_inode, zero_half, zero_word, zeros_direct, zeros_mode, zeros_pointer}
pub use Rattle.ffs_model.proofs.Rewritten as rewritten
pub use Rattle.ffs_model.proofs.Once.{data_once, direct_distinct, direct_once, direct_where, indirect_once}
-- calls
pub use Rattle.ffs_model.proofs.Rooted.{newest_types}
pub use Rattle.ffs_model.proofs.Given.{Proposed, Started, proposed, rooted, started}
pub use Rattle.ffs_model.proofs.Opened.{ended_keeps, nothing_pending, opened_keeps, remembers, root_made, started_frame, started_holds, started_keeps, started_names}
pub use Rattle.ffs_model.proofs.Proposals.{directory_grown, entry_cleared, entry_made, entry_turned, freed_waits, inode_forgets, inode_freed, inode_kept, inode_made, inode_unlinked, inodes_set, inodes_stay, link_added, link_taken, links_taken, pointer_set, root_stays, slot_waits, spare_by_freed, spare_by_taken, taken_waits}
pub use Rattle.ffs_model.proofs.Quiet.{below_written, file_written, other_number, other_spare, other_waits, other_written}
pub use Rattle.ffs_model.proofs.Before.{cuts_same}
pub use Rattle.ffs_model.proofs.ToSpare.{names_now, spare_begins}
pub use Rattle.ffs_model.proofs.Calls.{forget_cuts, init_cuts, make_root_cuts, propose_cuts}
pub use Rattle.ffs_model.proofs.Events.{event_cuts}
pub use Rattle.ffs_model.proofs.Later.{accepted_below, begin_next, begun_next, drop_root_next, edit_given, forgot_next, given_later, is_given, later_then, next_some, none_later, one_later, proposed_next, rooted_next, settle_next}
pub use Rattle.ffs_model.proofs.Mounted.{crash_keeps, mounted_bare, mounted_keeps, no_root_keeps, rest_keeps, rootless_from, rootless_keeps, rootless_rest}
pub use Rattle.ffs_model.proofs.Writes.{begin_cuts, settle_cuts}
-- what is refused for want of something alone
pub use Rattle.ffs_model.proofs.Pairs.{Replaces, all_of, changes_add, changes_drop, changes_none, claims_from, flat_kept, flat_replaced, pointed_kept, pointed_none, pointed_set, replaces_in, within_parts}
pub use Rattle.ffs_model.proofs.Shortages.{IsFit, IsHeld, all_empty, edit_short, held, init_short, may_all_drop, never_err, once_held, owner_of, root_short, same_refusal, unnamed}
pub use Rattle.ffs_model.proofs.ShortEdits.{data_begun, data_short, direct_set, free_begun, indirect_set, inode_add_short, inode_bare, inode_freed_short, inode_part, inode_short, inode_words, inodes_begun, pointer_set_short, pointers_begun, pointers_cleared_short, root_begun, root_set_short}
pub use Rattle.ffs_model.proofs.Numbers.{forget_later, gives_short, init_later, make_root_later, named_linked, named_links, propose_later, proposed_given, rooted_given}
