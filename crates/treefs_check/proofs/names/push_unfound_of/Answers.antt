use Rattle.std.proofs.Common.{◌++◌, [], arith, refl}
use Rattle.treefs_lookup.specs.Readable.{readable}
use Rattle.treefs_check.specs.Names.{no_more, one_more, unfound_in}
use Rattle.treefs_check.proofs.Appended.{behind, last}
use Rattle.treefs_check.proofs.names.push_unfound_of.Goals as goal

pub loop-bucket-init : goal.loop-bucket-init
loop-bucket-init g c = record { few = omega arith; goes = λ rest h. (rest, h, refl) }

pub loop-bucket-preserved : goal.loop-bucket-preserved
loop-bucket-preserved g c =
    let b = c.in-Some.bucket in
    let few = c.in-Some.ensures.few in
    let here = unfound_in (readable (g.S.Store.state_of c.args.store.now) c.args.tree.fs.number) c.args.tree.top c.args.directory.number b.block b.start b.bytes.now in
    record {
      few = omega arith;
      goes = λ rest h.
          let all = c.loop-bucket.invariant.goes (here ++ rest) (one_more b c.in-Some.ensures h) in
          (all.0, all.1, behind c.loop-bucket.findings.items here rest c.in_ok-push_unfound_in.ensures all.2);
    }

pub returns : goal.returns
returns g c =
    let all = c.loop-bucket.invariant.goes [] (no_more c.in_default.ensures) in
    (all.0, all.1, last c.loop-bucket.findings.items all.2)
