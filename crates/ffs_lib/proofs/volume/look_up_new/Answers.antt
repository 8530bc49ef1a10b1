use Rattle.ffs_lib.proofs.Creating.{bad_name, create_nothing, is_found, may_create, no_inode, no_room, not_made, taken}
use Rattle.ffs_lookup.proofs.ForCallers.{root_again}
use Rattle.ffs_lib.proofs.volume.look_up_new.Goals as goal

pub returns-in_err-found-clause-exact : goal.returns-in_err-found-clause-exact
returns-in_err-found-clause-exact g c = λ lib.
    not_made _ _ _ c.from_residual.ensures.1 (create_nothing _ _ _ _ _ (c.in_err-found.ensures.exact lib))

pub returns-then-not-is_name-clause-exact : goal.returns-then-not-is_name-clause-exact
returns-then-not-is_name-clause-exact g c = λ lib.
    bad_name _ _ _ _ _ (c.in_ok-found.ensures.exact lib) c.if-not-is_name.ensures

pub returns-then-is_some-clause-exact : goal.returns-then-is_some-clause-exact
returns-then-is_some-clause-exact g c = λ lib.
    taken _ _ _ _ _ (c.in_ok-found.ensures.exact lib) c.if-not-is_name.ensures _ (c.in_ok-find_entry.ensures.exact lib) c.if-is_some.ensures

pub returns-in_err-free-clause-exact : goal.returns-in_err-free-clause-exact
returns-in_err-free-clause-exact g c = λ lib.
    let inodes = c.in_ok-found.ensures.found.is.stands.inodes in
    let top = root_again _ _ inodes.root inodes.is_root in
    not_made _ _ _ c.from_residual-in_err-free.ensures.1 (no_inode _ _ _ _ _ (c.in_ok-found.ensures.exact lib) c.if-not-is_name.ensures _ (c.in_ok-find_entry.ensures.exact lib) c.if-is_some.ensures inodes.root top _ (c.in_err-free.ensures.exact lib inodes.root top))

pub returns-in_err-find_room-clause-exact : goal.returns-in_err-find_room-clause-exact
returns-in_err-find_room-clause-exact g c = λ lib.
    let inodes = c.in_ok-found.ensures.found.is.stands.inodes in
    let top = root_again _ _ inodes.root inodes.is_root in
    not_made _ _ _ c.from_residual-in_err-find_room.ensures.1 (no_room _ _ _ _ _ (c.in_ok-found.ensures.exact lib) c.if-not-is_name.ensures _ (c.in_ok-find_entry.ensures.exact lib) c.if-is_some.ensures inodes.root top (c.in_ok-free.ensures.exact lib inodes.root top) _ (c.in_err-find_room.ensures.exact lib))

pub returns-clause-exact : goal.returns-clause-exact
returns-clause-exact g c = λ lib.
    let inodes = c.in_ok-found.ensures.found.is.stands.inodes in
    let top = root_again _ _ inodes.root inodes.is_root in
    is_found _ _ (may_create _ _ _ _ _ (c.in_ok-found.ensures.exact lib) c.if-not-is_name.ensures _ (c.in_ok-find_entry.ensures.exact lib) c.if-is_some.ensures inodes.root top (c.in_ok-free.ensures.exact lib inodes.root top) (c.in_ok-find_room.ensures.exact lib))
