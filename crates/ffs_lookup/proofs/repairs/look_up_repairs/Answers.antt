use Rattle.std.proofs.Common.{◌+◌, ◌-◌, ◌<◌, ◌≡◌, ◌∙◌, ap, arith, sym, min, slice_index}
use Rattle.ffs_model.specs.Cuts.{latest}
use Rattle.ffs_lookup.specs.Counts.{names_count}
use Rattle.ffs_lookup.specs.Newest.{inode_in}
use Rattle.ffs_lookup.specs.Repairs.{repair_found}
use Rattle.ffs_lookup.proofs.Repairing.{all_found, found_first, found_more, repair_of_other}
use Rattle.ffs_lookup.proofs.Walks.{same_ok}
use Rattle.ffs_lookup.proofs.repairs.look_up_repairs.Goals as goal

pub loop-at-init : goal.loop-at-init
loop-at-init g c = λ lib. found_first (latest (g.S.Store.state_of c.args.store.now).lives) c.args.fs.number

pub loop-at-preserved : goal.loop-at-preserved
loop-at-preserved g c = λ lib.
    let content = latest (g.S.Store.state_of c.args.store.now).lives in
    let at = c.loop-at.at in
    let counts = c.in_ok-counts.counts in
    let a = c.in_ok-counts.ensures.counts lib in
    let less : at < 128 = omega arith in
    let same : at + 1 - 1 ≡ at = omega arith in
    let count : c.of.result ≡ min (names_count content c.args.fs.number (at + 1)) 4294967295 = c.of.ensures ∙ (ap (λ i. slice_index counts.each i) same ∙ a.each at less) in
    let found = same_ok c.in_ok-each.field-0 (repair_found content (names_count content _ (at + 1)) (inode_in content _ (at + 1))) (c.in_ok-each.ensures lib (names_count content _ (at + 1)) count) in
    found_more content _ c.loop-at.each at c.in_ok-each.field-0 (c.loop-at.invariant lib) less (found ∙ sym (repair_of_other content _ (at + 1) (λ z. absurd (omega (arith, z)))))

pub returns-clause-each : goal.returns-clause-each
returns-clause-each g c = λ lib.
    let all : c.loop-at.at ≡ 128 = omega arith in
    all_found (latest (g.S.Store.state_of c.args.store.now).lives) c.args.fs.number c.loop-at.each c.loop-at.at all (c.loop-at.invariant lib)
