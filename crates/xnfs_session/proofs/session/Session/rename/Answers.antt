use Rattle.std.proofs.Common.{◌≡◌, Ok, subst}
use Rattle.ffs_lookup.specs.declared.places.Slot.{Slot}
use Rattle.ffs_lookup.specs.Newest.{rename_in}
use Rattle.ffs_lib.specs.Orders.{InOrder, moved_parts}
use Rattle.ffs_lib.specs.Results.{MovedInodes}
use Rattle.ffs_lib.specs.Steps.{newest_block}
use Rattle.xnfs_session.proofs.session.Session.rename.Goals as goal

pub returns-clause-inodes : goal.returns-clause-inodes
returns-clause-inodes g c =
    subst (λ v. (slot : Slot) → Ok slot ≡ rename_in (newest_block (g.S.Store.state_of v.store)) v.fs c.args.directory c.args.name.now c.args.other c.args.new_name.now →
    MovedInodes (newest_block (g.S.Store.state_of v.store)) (newest_block (g.S.Store.state_of c.rename.new.store)) v.fs c.args.directory c.args.other slot.inode) c.self.view_is c.rename.ensures.inodes

pub returns-clause-order : goal.returns-clause-order
returns-clause-order g c =
    subst (λ v. (slot : Slot) → Ok slot ≡ rename_in (newest_block (g.S.Store.state_of v.store)) v.fs c.args.directory c.args.name.now c.args.other c.args.new_name.now →
    InOrder (g.S.Store.types_of v.store) v.fs (moved_parts v.fs slot c.args.other c.args.new_name.now (g.S.Store.state_of v.store).next) (g.S.Store.state_of v.store) (g.S.Store.state_of c.rename.new.store) c.rename.result) c.self.view_is c.rename.ensures.order
