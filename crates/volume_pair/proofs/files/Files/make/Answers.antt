use Rattle.std.proofs.Common.{◌≡◌, Option, arith, subst, IfSome}
use Rattle.xn_model.specs.Calls.{pending_of}
use Rattle.ffs_model.specs.Cuts.{latest}
use Rattle.ffs_lookup.specs.FileValues.{files_of}
use Rattle.ffs_lib.specs.Making.{newly_made}
use Rattle.ffs_lib.specs.Stages.{make_stages}
use Rattle.volume_pair.specs.Kept.{IsKept}
use Rattle.volume_pair.proofs.Kept.{make_kept}
use Rattle.volume_pair.proofs.files.Files.make.Goals as goal

pub invariant_of-self-in-Err : goal.invariant_of-self-in-Err
invariant_of-self-in-Err g c =
    let T = g.S.Store.types_of c.in-Some.store in
    let old = g.S.Store.state_of c.in-Some.store in
    let fs = c.self.inside.fs.number in
    let volume = c.self.inside.volume in
    let idle : pending_of old fs ≡ 0 = omega (arith, c.pending.ensures.pending) in
    let kept : IsKept T old fs volume = subst (λ (o : Option g.row.S.Denot). IfSome o (λ store. IsKept (g.S.Store.types_of store) (g.S.Store.state_of store) fs volume)) c.in-Some.is c.self.invariant in
    let files = files_of (latest old.lives) fs in
    make_kept T (g.S.Store.types_of c.make.new.store) old (g.S.Store.state_of c.make.new.store) fs volume c.in-Err.fault c.in-Err.ensures.types kept idle (newly_made old fs files) (make_stages files)
    c.in-Err.ensures.answers c.in-Err.ensures.err
