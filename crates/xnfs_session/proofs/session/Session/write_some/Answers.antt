use Rattle.std.proofs.Common.{◌≡◌, ◌≢◌, ◌+◌, ◌<◌, ℕ, List, Ok, length, subst, IfOk}
use Rattle.xn_model.specs.Lives.{StoreState}
use Rattle.ffs_lookup.specs.FileValues.{files_of}
use Rattle.ffs_lookup.specs.Files.{written}
use Rattle.ffs_lookup.specs.Newest.{file_end, write_in}
use Rattle.ffs_lib.specs.Steps.{newest_block}
use Rattle.ffs_lib.specs.Written.{DoesSome, Overwrites, WritesSomeTo, some_by}
use Rattle.ffs_lib.specs.WriteOrder.{ShowsWhole, WritesSomeInOrder, after_in, first_past, reached}
use Rattle.ffs_lib.specs.declared.data.Last.{Last}
use Rattle.xnfs_session.proofs.Taken.{few}
use Rattle.xnfs_session.proofs.session.Session.write_some.Goals as goal

pub returns-clause-few : goal.returns-clause-few
returns-clause-few g c = few _ _ _ _ _ _ _ _ _ _ _ c.write_some.ensures.answers

pub returns-clause-answers : goal.returns-clause-answers
returns-clause-answers g c =
    subst (λ v. DoesSome (g.S.Store.types_of v.store) v.fs (files_of (newest_block (g.S.Store.state_of v.store)) v.fs) (after_in (g.S.Store.types_of v.store) v.fs c.args.inode c.args.offset c.args.bytes.now (g.S.Store.state_of v.store))
    c.args.inode c.args.offset c.args.bytes.now (written (files_of (newest_block (g.S.Store.state_of v.store)) v.fs) c.args.inode c.args.offset c.args.bytes.now) (g.S.Store.state_of v.store) (g.S.Store.state_of c.write_some.new.store) c.write_some.result)
    c.self.view_is c.write_some.ensures.answers

pub returns-clause-inodes : goal.returns-clause-inodes
returns-clause-inodes g c =
    subst (λ v. (file : List ℕ) → Ok file ≡ write_in (newest_block (g.S.Store.state_of v.store)) v.fs c.args.inode (c.args.offset + length c.args.bytes.now) →
    let done : ℕ = some_by (g.S.Store.types_of v.store) v.fs c.args.inode file c.args.offset c.args.bytes.now (g.S.Store.state_of v.store) (g.S.Store.state_of c.write_some.new.store) c.write_some.result in
    Overwrites (newest_block (g.S.Store.state_of v.store)) (newest_block (g.S.Store.state_of c.write_some.new.store)) v.fs c.args.inode file c.args.offset c.args.bytes.now done
    × WritesSomeTo (g.S.Store.types_of v.store) v.fs (files_of (newest_block (g.S.Store.state_of v.store)) v.fs) (after_in (g.S.Store.types_of v.store) v.fs c.args.inode c.args.offset c.args.bytes.now (g.S.Store.state_of v.store))
    c.args.inode c.args.offset c.args.bytes.now done (g.S.Store.state_of c.write_some.new.store) c.write_some.result) c.self.view_is c.write_some.ensures.inodes

pub returns-clause-order : goal.returns-clause-order
returns-clause-order g c =
    subst (λ v. (file : List ℕ) → Ok file ≡ write_in (newest_block (g.S.Store.state_of v.store)) v.fs c.args.inode (c.args.offset + length c.args.bytes.now) →
    WritesSomeInOrder (g.S.Store.types_of v.store) v.fs c.args.inode file c.args.offset c.args.bytes.now (g.S.Store.state_of v.store) (g.S.Store.state_of c.write_some.new.store) c.write_some.result)
    c.self.view_is c.write_some.ensures.order

pub returns-clause-cuts : goal.returns-clause-cuts
returns-clause-cuts g c =
    subst (λ v. (file : List ℕ) (there : StoreState × Last) → Ok file ≡ write_in (newest_block (g.S.Store.state_of v.store)) v.fs c.args.inode (c.args.offset + length c.args.bytes.now) →
    reached (g.S.Store.types_of v.store) v.fs c.args.inode file c.args.offset c.args.bytes.now (first_past (file_end file) c.args.offset) (g.S.Store.state_of v.store) ≡ Ok there →
    IfOk c.write_some.result (λ count. count ≢ 0 → file_end file < c.args.offset + count → ShowsWhole there.0 (g.S.Store.state_of c.write_some.new.store))) c.self.view_is c.write_some.ensures.cuts
