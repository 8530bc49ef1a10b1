use Rattle.std.proofs.Common.{sym}
use Rattle.ffs_lib.proofs.Common.{and_parts, is_name}
use Rattle.ffs_lib.proofs.Renaming.{bad_names, may_move, most_links, new_taken, no_directory, no_first, no_inode_named, no_name, no_room_there, no_second, other_directory, told}
use Rattle.ffs_lib.proofs.volume.Volume.look_up_move.Goals as goal

pub returns-in_err-from-clause-exact : goal.returns-in_err-from-clause-exact
returns-in_err-from-clause-exact g c = λ lib.
    told _ _ _ c.from_residual.ensures.1
    (no_first _ _ _ _ _ _ _ (c.in_err-from.ensures.exact lib))

pub returns-in_err-to-clause-exact : goal.returns-in_err-to-clause-exact
returns-in_err-to-clause-exact g c = λ lib.
    told _ _ _ c.from_residual-in_err-to.ensures.1
    (no_second _ _ _ _ _ _ _ (c.in_ok-from.ensures.exact lib) _ (c.in_err-to.ensures.exact lib))

pub returns-then-not-are_directories-clause-exact : goal.returns-then-not-are_directories-clause-exact
returns-then-not-are_directories-clause-exact g c = λ lib.
    no_directory _ _ _ _ _ _ _ (c.in_ok-from.ensures.exact lib) _ (c.in_ok-to.ensures.exact lib) c.if-not-are_directories.ensures

pub returns-then-not-are_names-clause-exact : goal.returns-then-not-are_names-clause-exact
returns-then-not-are_names-clause-exact g c = λ lib.
    bad_names _ _ _ _ _ _ _ (c.in_ok-from.ensures.exact lib) _ (c.in_ok-to.ensures.exact lib) c.if-not-are_directories.ensures c.if-not-are_names.ensures

pub returns-in_err-slot-clause-exact : goal.returns-in_err-slot-clause-exact
returns-in_err-slot-clause-exact g c = λ lib.
    told _ _ _ c.from_residual-in_err-slot.ensures.1
    (no_name _ _ _ _ _ _ _ (c.in_ok-from.ensures.exact lib) _ (c.in_ok-to.ensures.exact lib) c.if-not-are_directories.ensures
    c.if-not-are_names.ensures _ (c.in_ok-find_entry.ensures.exact lib) _ c.in_err-slot.ensures.value)

pub returns-then-is_some-clause-exact : goal.returns-then-is_some-clause-exact
returns-then-is_some-clause-exact g c = λ lib.
    new_taken _ _ _ _ _ _ _ (c.in_ok-from.ensures.exact lib) _ (c.in_ok-to.ensures.exact lib) c.if-not-are_directories.ensures c.if-not-are_names.ensures
    _ (c.in_ok-find_entry.ensures.exact lib) _ c.in_ok-slot.ensures.value _ (c.in_ok-find_entry-2.ensures.exact lib) c.if-is_some.ensures

pub returns-in_err-found-clause-exact : goal.returns-in_err-found-clause-exact
returns-in_err-found-clause-exact g c = λ lib.
    told _ _ _ c.from_residual-in_err-found.ensures.1
    (no_inode_named _ _ _ _ _ _ _ (c.in_ok-from.ensures.exact lib) _ (c.in_ok-to.ensures.exact lib) c.if-not-are_directories.ensures c.if-not-are_names.ensures
    _ (c.in_ok-find_entry.ensures.exact lib) _ c.in_ok-slot.ensures.value _ (c.in_ok-find_entry-2.ensures.exact lib) c.if-is_some.ensures _ (c.in_err-found.ensures.exact lib))

pub returns-then-moves_directory-clause-exact : goal.returns-then-moves_directory-clause-exact
returns-then-moves_directory-clause-exact g c = λ lib.
    other_directory _ _ _ _ _ _ _ (c.in_ok-from.ensures.exact lib) _ (c.in_ok-to.ensures.exact lib) c.if-not-are_directories.ensures c.if-not-are_names.ensures
    _ (c.in_ok-find_entry.ensures.exact lib) _ c.in_ok-slot.ensures.value _ (c.in_ok-find_entry-2.ensures.exact lib) c.if-is_some.ensures
    _ (c.in_ok-found.ensures.exact lib) c.if-moves_directory.ensures

pub returns-then-links-clause-exact : goal.returns-then-links-clause-exact
returns-then-links-clause-exact g c = λ lib.
    most_links _ _ _ _ _ _ _ (c.in_ok-from.ensures.exact lib) _ (c.in_ok-to.ensures.exact lib) c.if-not-are_directories.ensures c.if-not-are_names.ensures
    _ (c.in_ok-find_entry.ensures.exact lib) _ c.in_ok-slot.ensures.value _ (c.in_ok-find_entry-2.ensures.exact lib) c.if-is_some.ensures
    _ (c.in_ok-found.ensures.exact lib) c.if-moves_directory.ensures _ c.links.ensures c.if-links.true

pub returns-in_err-find_room-clause-exact : goal.returns-in_err-find_room-clause-exact
returns-in_err-find_room-clause-exact g c = λ lib.
    told _ _ _ c.from_residual-in_err-find_room.ensures.1
    (no_room_there _ _ _ _ _ _ _ (c.in_ok-from.ensures.exact lib) _ (c.in_ok-to.ensures.exact lib) c.if-not-are_directories.ensures c.if-not-are_names.ensures
    _ (c.in_ok-find_entry.ensures.exact lib) _ c.in_ok-slot.ensures.value _ (c.in_ok-find_entry-2.ensures.exact lib) c.if-is_some.ensures
    _ (c.in_ok-found.ensures.exact lib) c.if-moves_directory.ensures _ c.links.ensures c.if-links.false _ (c.in_err-find_room.ensures.exact lib))

pub returns-clause-exact : goal.returns-clause-exact
returns-clause-exact g c = λ lib.
    may_move _ _ _ _ _ _ _ (c.in_ok-from.ensures.exact lib) _ (c.in_ok-to.ensures.exact lib) c.if-not-are_directories.ensures c.if-not-are_names.ensures
    _ (c.in_ok-find_entry.ensures.exact lib) _ c.in_ok-slot.ensures.value _ (c.in_ok-find_entry-2.ensures.exact lib) c.if-is_some.ensures
    _ (c.in_ok-found.ensures.exact lib) c.if-moves_directory.ensures _ c.links.ensures c.if-links.false (c.in_ok-find_room.ensures.exact lib)

pub returns-clause-name : goal.returns-clause-name
returns-clause-name g c = (and_parts (is_name c.args.name.now) (is_name c.args.new_name.now) (sym c.if-not-are_names.ensures)).1
