use Rattle.std.proofs.Common.{◌≡◌, ◌+◌, ◌≤◌, ◌<◌, ℕ, ap, arith, inl, inr, subst, sym, Ok, slice_index_or}
use Rattle.std.proofs.lemmas.Bool.{cases_lt}
use Rattle.ffs_model.specs.Cuts.{latest}
use Rattle.ffs_lookup.specs.Counts.{links_in}
use Rattle.ffs_lookup.proofs.Counting.{Enough, over_found, over_past}
use Rattle.ffs_lookup.proofs.counts.find_over_named.Goals as goal

pub returns-then-counts-at : goal.returns-then-counts-at
returns-then-counts-at g c = λ lib.
    let links = c.links_of.ensures lib in
    ap Ok (sym (over_found _ c.args.fs.number c.in_ok-counts.counts (c.in_ok-counts.ensures.counts lib) c.loop-at.at (omega arith) (c.loop-at.invariant lib) (omega (arith, links))))

pub loop-at-preserved : goal.loop-at-preserved
loop-at-preserved g c = λ lib j lt.
    let content = latest (g.S.Store.state_of c.args.store.now).lives in
    let fs = c.args.fs.number in
    let links = c.links_of.ensures lib in
    elim (cases_lt j c.loop-at.at) [
      | inl less ↦ c.loop-at.invariant lib j less
      | inr ge ↦
          let same : c.loop-at.at ≡ j = omega (arith, lt, ge) in
          subst (λ k. (slice_index_or c.in_ok-counts.counts.each k 0 ≤ links_in content fs (k + 1)) × (links_in content fs (k + 1) < 65536)) same (omega (arith, links), omega (arith, links))
    ]

pub returns : goal.returns
returns g c = λ lib.
    let content = latest (g.S.Store.state_of c.args.store.now).lives in
    let all : c.loop-at.at ≡ 128 = omega arith in
    ap Ok (sym (over_past content c.args.fs.number c.in_ok-counts.counts (c.in_ok-counts.ensures.counts lib) (subst (λ (n : ℕ). Enough content c.args.fs.number c.in_ok-counts.counts n) all (c.loop-at.invariant lib))))
