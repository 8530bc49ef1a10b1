use Rattle.std.proofs.Common.{◌≡◌, ℕ, List, None, Result, Ok, OnErr}
use Rattle.xn_model.specs.Lives.{StoreState}
use Rattle.xn_model.specs.Types.{Types}
use Rattle.ffs_lookup.specs.declared.fault.FfsFault.{FfsFault}
use Rattle.ffs_lookup.specs.declared.places.Slot.{Slot}
use Rattle.ffs_lib.specs.Orders.{Orders, removed_edits}
use Rattle.ffs_lib.specs.Stages.{KeptOrEmptied, Unnames}
use Rattle.ffs_lib.specs.Steps.{newest_block}
use Rattle.xnfs_session.specs.declared.session.Kind.{Kind}
use Rattle.xnfs_session.specs.declared.session.Kind.TheVariants.{Directory, File}
use Rattle.xnfs_session.specs.Sessions.{SessionValue, removal_in}
use Rattle.xnfs_session.proofs.ByKind.{at_kind}
use Rattle.xnfs_session.proofs.session.Session.remove.Goals as goal

module _ {S : Type 0} (types_of : S → Types) (state_of : S → StoreState) (d : ℕ) (name : List ℕ) (new : StoreState) (result : Result (Unit {0}) FfsFault) where
  abbrev Inodes : SessionValue S → Kind → Type 0
  Inodes v kind =
      (slot : Slot) → Ok slot ≡ removal_in kind (newest_block (state_of v.store)) v.fs d name →
      Unnames (newest_block (state_of v.store)) (newest_block new) v.fs d slot.inode × OnErr result (KeptOrEmptied (newest_block (state_of v.store)) (newest_block new) v.fs slot.inode)

  abbrev Order : SessionValue S → Kind → Type 0
  Order v kind =
      (slot : Slot) → Ok slot ≡ removal_in kind (newest_block (state_of v.store)) v.fs d name →
      Orders (types_of v.store) v.fs (removed_edits (newest_block (state_of v.store)) v.fs slot None (state_of v.store).next) (state_of v.store) new result

pub returns-in-File-clause-inodes : goal.returns-in-File-clause-inodes
returns-in-File-clause-inodes g c =
    at_kind (Inodes g.S.Store.types_of g.S.Store.state_of c.args.directory c.args.name.now (g.S.Store.state_of c.unlink.new.store) c.unlink.result) _ c.args.self.now File c.args.kind c.self.view_is c.in-File.is c.unlink.ensures.inodes

pub returns-in-File-clause-order : goal.returns-in-File-clause-order
returns-in-File-clause-order g c =
    at_kind (Order g.S.Store.types_of g.S.Store.state_of c.args.directory c.args.name.now (g.S.Store.state_of c.unlink.new.store) c.unlink.result) _ c.args.self.now File c.args.kind c.self.view_is c.in-File.is c.unlink.ensures.order

pub returns-in-Directory-clause-inodes : goal.returns-in-Directory-clause-inodes
returns-in-Directory-clause-inodes g c =
    at_kind (Inodes g.S.Store.types_of g.S.Store.state_of c.args.directory c.args.name.now (g.S.Store.state_of c.rmdir.new.store) c.rmdir.result) _ c.args.self.now Directory c.args.kind
    c.self.view_is c.in-Directory.is c.rmdir.ensures.inodes

pub returns-in-Directory-clause-order : goal.returns-in-Directory-clause-order
returns-in-Directory-clause-order g c =
    at_kind (Order g.S.Store.types_of g.S.Store.state_of c.args.directory c.args.name.now (g.S.Store.state_of c.rmdir.new.store) c.rmdir.result) _ c.args.self.now Directory c.args.kind
    c.self.view_is c.in-Directory.is c.rmdir.ensures.order
