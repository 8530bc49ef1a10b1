use Rattle.std.proofs.Common.{◌≡◌, ℕ, List, Option, Result, Ok, OnErr}
use Rattle.xn_model.specs.Lives.{StoreState}
use Rattle.xn_model.specs.Types.{Types}
use Rattle.ffs_lookup.specs.declared.fault.FfsFault.{FfsFault}
use Rattle.ffs_lookup.specs.Files.{Files, created}
use Rattle.ffs_lookup.specs.FileValues.{files_of}
use Rattle.ffs_lib.specs.NewOrder.{CreatesInOrder, new_in}
use Rattle.ffs_lib.specs.Stages.{Makes, OnlyMade}
use Rattle.ffs_lib.specs.Steps.{newest_block}
use Rattle.ffs_lib.specs.Volumes.{edits_of}
use Rattle.xnfs_session.specs.declared.session.Kind.{Kind}
use Rattle.xnfs_session.specs.declared.session.Kind.TheVariants.{Directory, File}
use Rattle.xnfs_session.specs.Sessions.{SessionValue, mode_of, new_of}
use Rattle.xnfs_session.proofs.ByKind.{at_kind}
use Rattle.xnfs_session.proofs.session.Session.create.Goals as goal

module _ {S : Type 0} (types_of : S → Types) (state_of : S → StoreState) (d : ℕ) (name : List ℕ) (new : StoreState) (result : Result ℕ FfsFault) where
  abbrev Inodes : SessionValue S → Kind → Type 0
  Inodes v kind =
      (next : ℕ × Files) → created (new_of kind) (files_of (newest_block (state_of v.store)) v.fs) d name ≡ Ok next →
      Makes (newest_block (state_of v.store)) (newest_block new) v.fs d (mode_of kind) next.0 × OnErr result (OnlyMade (newest_block (state_of v.store)) (newest_block new) v.fs next.0)

  abbrev Order : (ℕ → Option ℕ) → SessionValue S → Kind → Type 0
  Order left v kind =
      (n : ℕ) → Ok n ≡ new_in (newest_block (state_of v.store)) v.fs d name →
      CreatesInOrder (types_of v.store) v.fs d name (mode_of kind) n (edits_of v.numbers) (state_of v.store) left new result

pub returns-in-File-clause-inodes : goal.returns-in-File-clause-inodes
returns-in-File-clause-inodes g c =
    at_kind (Inodes g.S.Store.types_of g.S.Store.state_of c.args.directory c.args.name.now (g.S.Store.state_of c.create.new.store) c.create.result) _ c.args.self.now File c.args.kind c.self.view_is c.in-File.is c.create.ensures.inodes

pub returns-in-File-clause-order : goal.returns-in-File-clause-order
returns-in-File-clause-order g c =
    at_kind (Order g.S.Store.types_of g.S.Store.state_of c.args.directory c.args.name.now (g.S.Store.state_of c.create.new.store) c.create.result (edits_of c.create.new.self.added)) _ c.args.self.now File c.args.kind
    c.self.view_is c.in-File.is c.create.ensures.order

pub returns-in-Directory-clause-inodes : goal.returns-in-Directory-clause-inodes
returns-in-Directory-clause-inodes g c =
    at_kind (Inodes g.S.Store.types_of g.S.Store.state_of c.args.directory c.args.name.now (g.S.Store.state_of c.mkdir.new.store) c.mkdir.result) _ c.args.self.now Directory c.args.kind
    c.self.view_is c.in-Directory.is c.mkdir.ensures.inodes

pub returns-in-Directory-clause-order : goal.returns-in-Directory-clause-order
returns-in-Directory-clause-order g c =
    at_kind (Order g.S.Store.types_of g.S.Store.state_of c.args.directory c.args.name.now (g.S.Store.state_of c.mkdir.new.store) c.mkdir.result (edits_of c.mkdir.new.self.added)) _ c.args.self.now Directory c.args.kind
    c.self.view_is c.in-Directory.is c.mkdir.ensures.order
