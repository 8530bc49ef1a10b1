use Rattle.std.proofs.Common.{◌≡◌, ◌≢◌, None, Ok, subst}
use Rattle.ffs_lookup.specs.declared.places.Slot.{Slot}
use Rattle.ffs_lib.specs.Orders.{InOrder, Orders, removed_edits, replaced_parts}
use Rattle.ffs_lib.specs.Replacing.{NamesStand, Replaced, replace_in}
use Rattle.ffs_lib.specs.Steps.{newest_block}
use Rattle.xnfs_session.proofs.session.Session.replace.Goals as goal

pub returns-clause-inodes : goal.returns-clause-inodes
returns-clause-inodes g c =
    subst (λ v. (from to : Slot) → Ok (from, to) ≡ replace_in (newest_block (g.S.Store.state_of v.store)) v.fs c.args.directory c.args.name.now c.args.other c.args.other_name.now →
    Replaced (g.S.Store.state_of v.store) (g.S.Store.state_of c.replace.new.store) v.fs c.args.directory from c.args.other to c.replace.result) c.self.view_is c.replace.ensures.inodes

pub returns-clause-stands : goal.returns-clause-stands
returns-clause-stands g c =
    subst (λ v. (from to : Slot) → Ok (from, to) ≡ replace_in (newest_block (g.S.Store.state_of v.store)) v.fs c.args.directory c.args.name.now c.args.other c.args.other_name.now → from.inode ≢ to.inode →
    NamesStand (g.S.Store.state_of v.store) (g.S.Store.state_of c.replace.new.store) from to) c.self.view_is c.replace.ensures.stands

pub returns-clause-order : goal.returns-clause-order
returns-clause-order g c =
    subst (λ v. (from to : Slot) → Ok (from, to) ≡ replace_in (newest_block (g.S.Store.state_of v.store)) v.fs c.args.directory c.args.name.now c.args.other c.args.other_name.now → from.inode ≢ to.inode →
    InOrder (g.S.Store.types_of v.store) v.fs (replaced_parts v.fs from to (g.S.Store.state_of v.store).next) (g.S.Store.state_of v.store) (g.S.Store.state_of c.replace.new.store) c.replace.result) c.self.view_is c.replace.ensures.order

pub returns-clause-one_file : goal.returns-clause-one_file
returns-clause-one_file g c =
    subst (λ v. (from to : Slot) → Ok (from, to) ≡ replace_in (newest_block (g.S.Store.state_of v.store)) v.fs c.args.directory c.args.name.now c.args.other c.args.other_name.now → from ≢ to → from.inode ≡ to.inode →
    Orders (g.S.Store.types_of v.store) v.fs (removed_edits (newest_block (g.S.Store.state_of v.store)) v.fs from None (g.S.Store.state_of v.store).next) (g.S.Store.state_of v.store) (g.S.Store.state_of c.replace.new.store) c.replace.result) c.self.view_is c.replace.ensures.one_file
