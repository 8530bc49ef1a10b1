use Rattle.std.proofs.Common.{◌≡◌, ◌≢◌, ◌∙◌, ℕ, List, ap, sym, subst, arith, length, length-append}
use Rattle.std.specs.Prelude.{All}
use Rattle.xn_model.specs.Lives.{Lives, life_at, freed, settled_at, drops_of}
use Rattle.xn_model.specs.Calls.{first_pending, life_pending}
use Rattle.block_cache.specs.Views.{drops_at}
use Rattle.block_cache.proofs.Freed.{are_other, all_other, is_ahead, life_at-freed, settled_at-freed, first_more, freed-append}
use Rattle.block_cache.proofs.cache.Cache.settle_and_free.Goals as goal

pub free_dropped-freed-requires : goal.free_dropped-freed-requires
free_dropped-freed-requires c =
    let o = life_at c.args.self.now c.args.block in
    let ahead = is_ahead c.args.block o c.loop-place.place c.args.count c.loop-place-test.true c.requires.within c.requires.apart in
    let same = ap (λ (ls : Lives). life_at ls c.args.block) c.loop-place.invariant.0 ∙ life_at-freed c.args.self.now c.args.block _ ahead.before in
    let P : List ℕ → Type 0 = λ ds. All (λ c'. c' ≢ c.args.block) ds in
    subst P (sym (ap (drops_at c.loop-place.place) same)) (all_other c.args.block (drops_at c.loop-place.place o) ahead.here)

pub loop-place-preserved : goal.loop-place-preserved
loop-place-preserved c =
    let lives = c.args.self.now in
    let o = life_at lives c.args.block in
    let ahead = is_ahead c.args.block o c.loop-place.place c.args.count c.loop-place-test.true c.requires.within c.requires.apart in
    let same = ap (drops_at c.loop-place.place) (ap (λ (ls : Lives). life_at ls c.args.block) c.loop-place.invariant.0 ∙ life_at-freed lives c.args.block _ ahead.before) in
    let more = first_more o c.loop-place.place (omega (arith, c.loop-place-test.true, c.requires.within)) in
    let longer = ap (λ (ds : List ℕ). length ds) more ∙ length-append (drops_of (first_pending c.loop-place.place o)) (drops_at c.loop-place.place o) in (
      c.free_dropped-freed.ensures.lives
          ∙ ((λ i. freed (c.loop-place.invariant.0 i) (same i))
          ∙ (sym (freed-append lives (drops_of (first_pending c.loop-place.place o)) (drops_at c.loop-place.place o)) ∙ sym (ap (freed lives) more))),
      omega (arith, longer, c.loop-place.invariant.1, c.free_dropped-freed.ensures.freed, ap (λ (ds : List ℕ). length ds) same),
      omega (arith, c.loop-place.invariant.2, c.free_dropped-freed.ensures.few),
    )

pub settle-requires : goal.settle-requires
settle-requires c =
    let lives = c.args.self.now in
    let o = life_at lives c.args.block in
    let all : c.loop-place.place ≡ c.args.count = omega (arith, c.loop-place-test.false) in
    let whole = c.loop-place.invariant.0 ∙ ap (λ k. freed lives (drops_of (first_pending k o))) all in
    let same = ap (λ (ls : Lives). life_at ls c.args.block) whole ∙ life_at-freed lives c.args.block _ (are_other c.args.block (drops_of (first_pending c.args.count o)) c.requires.apart) in
    omega (arith, c.requires.within, ap life_pending same)

pub returns-clause-lives : goal.returns-clause-lives
returns-clause-lives c =
    let lives = c.args.self.now in
    let o = life_at lives c.args.block in
    let all : c.loop-place.place ≡ c.args.count = omega (arith, c.loop-place-test.false) in
    let whole = c.loop-place.invariant.0 ∙ ap (λ k. freed lives (drops_of (first_pending k o))) all in
    c.settle.ensures
    ∙ (ap (λ (ls : Lives). settled_at ls c.args.block c.args.count) whole
    ∙ settled_at-freed lives c.args.block c.args.count (drops_of (first_pending c.args.count o)) (are_other c.args.block (drops_of (first_pending c.args.count o)) c.requires.apart))
