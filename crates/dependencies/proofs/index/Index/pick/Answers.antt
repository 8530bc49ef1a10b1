use Rattle.std.proofs.Common.{◌∙◌, length, subst, sym, arith}
use Rattle.xn_model.specs.Calls.{is_ready}
use Rattle.free_map.specs.Members.{HasNoneFrom, IsLeastFrom}
use Rattle.dependencies.specs.Index.{IsIndex}
use Rattle.dependencies.specs.declared.index.Index.TheInside.{Inside}
use Rattle.dependencies.proofs.Accounts.{none_before, none_ready, none_through, ready_within}
use Rattle.dependencies.proofs.Dirty.{is_nowhere, is_place}
use Rattle.dependencies.proofs.index.Index.pick.Goals as goal

pub returns-in_err-block : goal.returns-in_err-block
returns-in_err-block c =
    let lives = c.args.cache.now in
    let mine = subst (IsIndex lives) (sym c.self.view_is) c.requires.index in
    let none = none_ready lives c.self.inside.candidates c.loop-from.from (length lives) mine.candidates (subst (λ (at : Inside). HasNoneFrom at.candidates.blocks c.loop-from.from) c.self-inside.view_is c.in_err-block.ensures.none) c.loop-from.invariant in
    c.from_residual.ensures ∙ is_nowhere (is_ready lives) lives (length lives) (omega arith) none

pub returns-then-is_ready : goal.returns-then-is_ready
returns-then-is_ready c =
    let lives = c.args.cache.now in
    let mine = subst (IsIndex lives) (sym c.self.view_is) c.requires.index in
    let candidates = c.self.inside.candidates in
    let next = subst (λ (at : Inside). IsLeastFrom at.candidates.blocks c.loop-from.from c.in_ok-block.block) c.self-inside.view_is c.in_ok-block.ensures.some in
    is_place (is_ready lives) lives c.in_ok-block.block (ready_within lives candidates c.loop-from.from c.in_ok-block.block mine.candidates next)
    (none_before lives candidates c.loop-from.from c.in_ok-block.block mine.candidates next c.loop-from.invariant)
    (sym c.is_ready.ensures ∙ c.if-is_ready.true)

pub loop-from-preserved : goal.loop-from-preserved
loop-from-preserved c =
    let lives = c.args.cache.now in
    let mine = subst (IsIndex lives) (sym c.self.view_is) c.requires.index in
    none_through lives c.self.inside.candidates c.loop-from.from c.in_ok-block.block mine.candidates
    (subst (λ (at : Inside). IsLeastFrom at.candidates.blocks c.loop-from.from c.in_ok-block.block) c.self-inside.view_is c.in_ok-block.ensures.some) c.loop-from.invariant
    (sym c.is_ready.ensures ∙ c.if-is_ready.false)

pub returns : goal.returns
returns c =
    let lives = c.args.cache.now in
    let mine = subst (IsIndex lives) (sym c.self.view_is) c.requires.index in
    is_nowhere (is_ready lives) lives c.loop-from.from (omega (arith, c.loop-from-test.false, c.blocks-blocks.ensures)) c.loop-from.invariant
