use Rattle.std.proofs.Common.{◌≡◌, None, Ok, Err, subst, OnErr}
use Rattle.ffs_lookup.specs.declared.fault.FfsFault.{FfsFault}
use Rattle.ffs_lookup.specs.declared.places.Slot.{Slot}
use Rattle.ffs_lib.specs.Orders.{Orders, removed_edits}
use Rattle.ffs_lib.specs.Stages.{KeptOrEmptied, Unnames}
use Rattle.ffs_lib.specs.Steps.{newest_block}
use Rattle.ffs_lib.specs.Unnaming.{unname_in}
use Rattle.xnfs_session.proofs.session.Session.unname.Goals as goal

pub returns-clause-refused : goal.returns-clause-refused
returns-clause-refused g c =
    subst (λ v. (fault : FfsFault) → Err fault ≡ unname_in (newest_block (g.S.Store.state_of v.store)) v.fs c.args.directory c.args.name.now c.args.other.now →
    (c.unname.result ≡ Err fault) × (g.S.Store.state_of c.unname.new.store ≡ g.S.Store.state_of v.store)) c.self.view_is c.unname.ensures.refused

pub returns-clause-inodes : goal.returns-clause-inodes
returns-clause-inodes g c =
    subst (λ v. (slot : Slot) → Ok slot ≡ unname_in (newest_block (g.S.Store.state_of v.store)) v.fs c.args.directory c.args.name.now c.args.other.now →
    Unnames (newest_block (g.S.Store.state_of v.store)) (newest_block (g.S.Store.state_of c.unname.new.store)) v.fs c.args.directory slot.inode
    × OnErr c.unname.result (KeptOrEmptied (newest_block (g.S.Store.state_of v.store)) (newest_block (g.S.Store.state_of c.unname.new.store)) v.fs slot.inode)) c.self.view_is c.unname.ensures.inodes

pub returns-clause-order : goal.returns-clause-order
returns-clause-order g c =
    subst (λ v. (slot : Slot) → Ok slot ≡ unname_in (newest_block (g.S.Store.state_of v.store)) v.fs c.args.directory c.args.name.now c.args.other.now →
    Orders (g.S.Store.types_of v.store) v.fs (removed_edits (newest_block (g.S.Store.state_of v.store)) v.fs slot None (g.S.Store.state_of v.store).next) (g.S.Store.state_of v.store) (g.S.Store.state_of c.unname.new.store) c.unname.result)
    c.self.view_is c.unname.ensures.order
