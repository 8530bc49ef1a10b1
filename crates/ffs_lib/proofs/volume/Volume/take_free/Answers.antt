use Rattle.std.proofs.Common.{None, Option, inl, refl, subst, IfSome}
use Rattle.ffs_lib.proofs.Common.{IsFree, IsLowest, latest}
use Rattle.ffs_lookup.specs.declared.places.Free.{Free}
use Rattle.ffs_lib.specs.Volumes.{edits_of}
use Rattle.ffs_lib.proofs.NewOrder.{adds_done, free_there}
use Rattle.ffs_lib.proofs.volume.Volume.take_free.Goals as goal

pub add_inodes-requires-clause-full : goal.add_inodes-requires-clause-full
add_inodes-requires-clause-full g c = subst (IsLowest (latest (g.S.Store.state_of c.args.store.now).lives) c.args.self.now.fs.number) c.in-None.is c.requires.lowest

pub returns-in-Some-clause-leaves : goal.returns-in-Some-clause-leaves
returns-in-Some-clause-leaves g c =
    let old = g.S.Store.state_of c.args.store.now in
    let fs = c.args.self.now.fs.number in (
      c.requires.volume,
      record {
        is = subst (λ (o : Option Free). IfSome o (λ free. IsFree old fs free)) c.in-Some.is c.requires.free;
        lowest = subst (IsLowest (latest old.lives) fs) c.in-Some.is c.requires.lowest;
        stays = λ d. (refl, λ inode i. (refl, λ at low. refl), λ some few. inl refl);
      },
    )

pub returns-in-Some-clause-order : goal.returns-in-Some-clause-order
returns-in-Some-clause-order g c =
    let old = g.S.Store.state_of c.args.store.now in
    let is = subst (λ (o : Option Free). IfSome o (λ free. IsFree old c.args.self.now.fs.number free)) c.in-Some.is c.requires.free in
    adds_done (g.S.Store.types_of c.args.store.now) _ (edits_of c.args.self.now.added) (edits_of c.args.self.now.added) old old None (free_there old _ c.in-Some.free is) refl refl
