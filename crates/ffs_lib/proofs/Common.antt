-- What these proofs use of the crates below: their definitions, and lemmas of the library.
-- the library
pub use Rattle.std.proofs.Math.Nat.{max-eq_left, max-eq_right, min-eq_left, min-eq_right}
pub use Rattle.std.proofs.Math.Seq.{drop-append-add, take-append-add, take-append_seam, take-length}
pub use Rattle.std.proofs.lemmas.Bool.{and_from, and_parts, cases_eq, cases_lt, eqb-false, false≢true, lt-leb, not-true, or_left, or_right}
pub use Rattle.std.proofs.lemmas.Grind.{get_or-set_at}
pub use Rattle.std.proofs.lemmas.List.{drop-append-le, drop-replicate, drop_all, get_or-append_right, get_or-replicate, get_or_append_left, get_or_default}
pub use Rattle.std.proofs.lemmas.List.{length-replicate, map-append, nil_from_length, same_lists, take-append-le, take-replicate}
pub use Rattle.std.proofs.lemmas.List.Elements.{Contains-append_left, Contains-append_right, Contains-push_cases, filter-append}
pub use Rattle.std.proofs.lemmas.List.Folds.{find-append}
pub use Rattle.std.proofs.lemmas.List.FromFn.{get_or-map-range_with_len, length-map-range_with_len}
pub use Rattle.std.proofs.lemmas.Nat.{from_le_bytes-to_le_bytes_2, from_le_bytes-to_le_bytes_4}
pub use Rattle.std.proofs.lemmas.Option.{none-some, same_Some}
pub use Rattle.std.proofs.lemmas.Result.{IfOk-from_err, err_from_is_err_and, on_ok_weaker}
pub use Rattle.std.proofs.lemmas.Slice.Eq.{bytes_eq-Decides}
pub use Rattle.std.specs.Int.{from_le_bytes, to_le_bytes}
pub use Rattle.std.specs.List.{cons_option, last_or, list_all, list_any, range_with_len}
pub use Rattle.std.specs.Option.{option_or}
pub use Rattle.std.specs.Result.{result_ok}
-- blocks, types, lives and edits
pub use Rattle.xn_model.specs.Calls.{Edit, exhausted, forget_at, forget_of, init_at, init_of, is_untouched, kind_of, life_bytes, make_root_of, may_add}
pub use Rattle.xn_model.specs.Calls.{new_life, own_life, own_place, owns_nothing, pending_of, propose_of, root_of, root_state, slot_now, too_many, was_given}
pub use Rattle.xn_model.specs.Lists.{blocks_of, distinct, has_number, put}
pub use Rattle.xn_model.specs.Lives.{BlockState, Life, Lives, StoreState, alive_and, bytes_of, current, is_dropped, is_for, is_fresh, life_at, lowest_free}
pub use Rattle.xn_model.specs.Lives.{states}
pub use Rattle.xn_model.specs.Results.{Gives, GivesExactly, first_refusal, result_and_then, unless}
pub use Rattle.xn_model.specs.Root.{slot, unless_empty}
unfoldable pub use Rattle.xn_model.specs.Root.{word_at}
pub use Rattle.xn_model.specs.Rules.{IsConsistent}
pub use Rattle.xn_model.specs.Types.{Types, fits, within_size}
pub use Rattle.store_types.specs.declared.refusal.Refusal.{Refusal}
pub use Rattle.store_types.specs.declared.refusal.Refusal.TheVariants.{BadType, ClaimWrong, Exhausted, InFlight, NoMemory, NotEmpty, NotFresh, NotInUse, NotYours}
pub use Rattle.store_types.specs.declared.refusal.Refusal.TheVariants.{RootTaken, SizeWrong, TooManyPending}
-- volumes
pub use Rattle.ffs_model.specs.Cuts.{Choice, IsChosen, IsCut, IsFullAt, Takes, TakesAny, Under, latest, root, step}
pub use Rattle.ffs_model.specs.Edits.{EntryMade, HoldsOnly, InodeFreed, InodeKept, InodeMade, LinkAdded, LinkTaken, LinksTaken, OneEntry}
pub use Rattle.ffs_model.specs.Library.{IsLibrary, direct_word, inode_at, inode_blocks, inode_links, inode_mode, inode_pairs, library_layout, pointer_word}
pub use Rattle.ffs_model.specs.Library.{with_inode, zero_block}
unfoldable pub use Rattle.ffs_model.specs.Library.{half_at}
pub use Rattle.ffs_model.specs.Names.{HasLinks, IsInFile, IsInodes, IsRoot, LeavesRoom, LinksGood, Names}
pub use Rattle.ffs_model.specs.Shortages.{is_shortage}
pub use Rattle.ffs_model.specs.Standing.{SlotPair, StayNamed}
pub use Rattle.ffs_model.specs.Volumes.{CanName, CanUnlink, KeepsImage, KeepsNumber, Reads, VolumeKeeps, no_edits, with_edit, without_edit}
-- entries and fields of inodes
pub use Rattle.ffs_format.specs.Entries.{entry_of, is_dots, is_name, is_name_byte, is_name_length, name_in}
pub use Rattle.ffs_format.specs.Fields.{Fields, direct_in, fields_of}
-- files and what is looked up
pub use Rattle.ffs_lookup.specs.Counts.{if_idle, make_from, names_count, open_in, sound_in, unless_over}
unfoldable pub use Rattle.ffs_lookup.specs.Counts.{over_named}
pub use Rattle.ffs_lookup.specs.FileValues.{AreBlocksOnce, HasBlocksOnce, block_value, blocks_value, bytes_value, inode_value, place_in, value_in}
unfoldable pub use Rattle.ffs_lookup.specs.FileValues.{files_of}
pub use Rattle.ffs_lookup.specs.Files.{Answer, Blocks, Directory, File, Files, InodeValue, created, directories, empty_volume, fault_told, file_of, in_use}
pub use Rattle.ffs_lookup.specs.Files.{is_absent, links_of, listed, look_up, made_at, moved, new_directory, new_file, put_entry, renamed, replaced, room}
pub use Rattle.ffs_lookup.specs.Files.{with_block, with_entry, with_entry_in, with_value, without_link, written, written_bytes}
pub use Rattle.ffs_lookup.specs.Newest.{IsLowest, and_then, byte_in, byte_of, file_block, file_end, first_named, has_empty_pointer, has_free_at, has_free_inode}
pub use Rattle.ffs_lookup.specs.Newest.{has_gap, has_inode, has_name, has_pointer, has_room, if_bare, if_directory, if_file, if_linkable, if_makeable}
pub use Rattle.ffs_lookup.specs.Newest.{if_movable, if_new, if_room, if_unnamed, is_at, is_free_inode, is_short, listing, mapped, most_bytes, name_at}
pub use Rattle.ffs_lookup.specs.Newest.{name_of_place, names_at, names_of, number_in, read_count, read_into, room_from, room_in, root_of_type, slots_of}
pub use Rattle.ffs_lookup.specs.Newest.{unless_unused, unless_zero, without_entry}
unfoldable pub use Rattle.ffs_lookup.specs.Newest.{create_in, directory_in, file_in, inode_block_in, inode_in, make_in, named_in, names_in, rename_in, root_in}
unfoldable pub use Rattle.ffs_lookup.specs.Newest.{write_in}
pub use Rattle.ffs_lookup.specs.Places.{IsDirectory, IsEmptyPointer, IsFile, IsFound, IsFree, IsGap, IsPlace, IsRoom, IsSlot}
pub use Rattle.ffs_lookup.specs.Repairs.{idle_in, repair_at, repair_found, repair_of}
unfoldable pub use Rattle.ffs_lookup.specs.Repairs.{repair_in}
pub use Rattle.ffs_lookup.specs.declared.fault.FfsFault.{FfsFault}
pub use Rattle.ffs_lookup.specs.declared.fault.FfsFault.TheVariants.{BadName, DirNotEmpty, Exists, IsDir, Kernel, NoEntry, NoInode, NotDir, Pending, TooLarge}
pub use Rattle.ffs_lookup.specs.declared.fault.FfsFault.TheVariants.{Unsound}
pub use Rattle.ffs_lookup.specs.declared.places.Found.{Found}
pub use Rattle.ffs_lookup.specs.declared.places.Room.{Room}
pub use Rattle.ffs_lookup.specs.declared.places.Slot.{Slot}
pub use Rattle.ffs_lookup.specs.declared.repairs.Repair.{Repair}
pub use Rattle.ffs_lookup.specs.declared.repairs.Repair.TheVariants.{GiveUp, Keep, SetLinks}
pub use Rattle.ffs_lookup.specs.declared.repairs.Repairs.{Repairs}
