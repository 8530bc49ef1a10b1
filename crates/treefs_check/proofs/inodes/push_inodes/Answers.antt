use Rattle.std.proofs.Common.{◌++◌, [], arith, refl}
use Rattle.treefs_check.specs.Inodes.{no_more, one_more}
use Rattle.treefs_check.proofs.Appended.{behind, last}
use Rattle.treefs_check.proofs.inodes.push_inodes.Goals as goal

pub loop-numbered-init : goal.loop-numbered-init
loop-numbered-init g c = record { few = omega arith; goes = λ rest h. (rest, h, refl) }

pub loop-numbered-preserved : goal.loop-numbered-preserved
loop-numbered-preserved g c =
    let few = c.in-Some.ensures.few in
    let found = c.in_ok-push_inode.ensures in
    record {
      few = omega arith;
      goes = λ rest h.
          let all = c.loop-numbered.invariant.goes (found.0 ++ rest) (one_more c.in-Some.numbered c.in-Some.ensures found.1 h) in
          (all.0, all.1, behind c.loop-numbered.findings.items found.0 rest found.2 all.2);
    }

pub returns : goal.returns
returns g c =
    let all = c.loop-numbered.invariant.goes [] (no_more c.in_default.ensures) in
    (all.0, all.1, last c.loop-numbered.findings.items all.2)
