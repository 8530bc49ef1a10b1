use Rattle.std.proofs.Common.{sym}
use Rattle.xn_state.specs.States.{own_types}
use Rattle.xn_state.proofs.Unclaimed.{some_life, kept_claim, kept_decides}
use Rattle.xn_state.proofs.state.State.claimed.Goals as goal

pub returns-in-Some-clause-claimed : goal.returns-in-Some-clause-claimed
returns-in-Some-clause-claimed c =
    let state = c.args.self.now in
    let l = some_life state.lives c.args.block c.requires.alive in
    let newest = c.requires.newest l.0 l.1 in
    sym (kept_claim (own_types state) state c.args.block c.args.ty c.in-Some.reads.chunks l.0 c.args.new.now c.args.edit.now l.1 newest.0 newest.1 newest.2
    (c.in-Some.ensures.decides l.0 l.1) c.in-Some.ensures.leaves c.kept_reads.ensures.rules c.fits-new)

pub returns-in-Some-clause-reads : goal.returns-in-Some-clause-reads
returns-in-Some-clause-reads c =
    let state = c.args.self.now in
    let l = some_life state.lives c.args.block c.requires.alive in
    let newest = c.requires.newest l.0 l.1 in
    kept_decides (own_types state) state c.args.block c.args.ty c.in-Some.reads.chunks l.0 c.args.new.now c.args.edit.now l.1 newest.0 newest.1 newest.2
    (c.in-Some.ensures.decides l.0 l.1) c.in-Some.ensures.leaves c.fits-new
