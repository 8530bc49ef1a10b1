use Rattle.std.proofs.Common.{◌≡◌, ◌+◌, ℕ, arith, refl, subst, sym}
use Rattle.ffs_model.specs.Cuts.{latest}
use Rattle.ffs_lookup.specs.Counts.{AreCounts}
use Rattle.ffs_lookup.proofs.Counting.{a_directory, no_directory, numbers_below}
use Rattle.ffs_lookup.proofs.counts.count_names.Goals as goal

pub loop-at-preserved-in_default : goal.loop-at-preserved-in_default
loop-at-preserved-in_default g c = λ lib.
    subst (λ xs. AreCounts xs c.loop-at.counts) (sym (no_directory _ c.args.fs.number c.loop-at.at (c.loop-at.at + 1) refl _ (c.in_default.ensures.exact lib))) (c.loop-at.invariant lib)

pub loop-at-preserved : goal.loop-at-preserved
loop-at-preserved g c = λ lib.
    subst (λ xs. AreCounts xs c.add_directory.new.self) (sym (a_directory _ c.args.fs.number c.loop-at.at (c.loop-at.at + 1) refl c.in-Ok.directory.inode (c.in-Ok.ensures.exact lib)))
    (c.in_ok-add_directory.ensures.counts (numbers_below _ c.args.fs.number c.loop-at.at) (c.loop-at.invariant lib))

pub returns-clause-counts : goal.returns-clause-counts
returns-clause-counts g c = λ lib.
    let content = latest (g.S.Store.state_of c.args.store.now).lives in
    let all : c.loop-at.at ≡ 128 = omega arith in
    subst (λ (n : ℕ). AreCounts (numbers_below content c.args.fs.number n) c.loop-at.counts) all (c.loop-at.invariant lib)
