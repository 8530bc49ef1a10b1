use Rattle.std.proofs.Common.{◌∙◌, length, sym, arith}
use Rattle.dependencies.specs.Pending.{pends}
use Rattle.dependencies.proofs.Dirty.{fails_all, fails_before, fails_more, pends_not}
use Rattle.dependencies.proofs.FirstUnmet.{home_is, no_home}
use Rattle.dependencies.proofs.after.pending_somewhere.Goals as goal

pub returns-in_err-block : goal.returns-in_err-block
returns-in_err-block c =
    let lives = c.args.cache.now in
    let none = fails_all (pends c.args.number) c.args.dirty.now lives c.loop-from.from (length lives) (pends_not c.args.number) c.requires c.in_err-block.ensures.none c.loop-from.invariant in
    c.from_residual.ensures ∙ sym (no_home lives c.args.number none)

pub returns-then-is_pending_in : goal.returns-then-is_pending_in
returns-then-is_pending_in c =
    let lives = c.args.cache.now in
    let before = fails_before (pends c.args.number) c.args.dirty.now lives c.loop-from.from c.in_ok-block.block (pends_not c.args.number) c.requires c.in_ok-block.ensures.some c.loop-from.invariant in
    sym (home_is lives c.in_ok-block.block c.args.number (sym c.is_pending_in.ensures ∙ c.if-is_pending_in.true) before)

pub loop-from-preserved : goal.loop-from-preserved
loop-from-preserved c =
    fails_more (pends c.args.number) c.args.dirty.now c.args.cache.now c.loop-from.from c.in_ok-block.block (pends_not c.args.number) c.requires c.in_ok-block.ensures.some c.loop-from.invariant
    (sym c.is_pending_in.ensures ∙ c.if-is_pending_in.false)

pub returns : goal.returns
returns c = sym (no_home c.args.cache.now c.args.number (λ k below. c.loop-from.invariant k (omega (arith, below, c.loop-from-test.false, c.blocks-blocks.ensures))))
