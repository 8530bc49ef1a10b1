use Rattle.std.proofs.Common.{◌∙◌, ap, sym, subst, length}
use Rattle.std.specs.List.{range_with_len}
use Rattle.xn_model.specs.Lives.{Lives, root_on_disk}
use Rattle.block_cache.specs.Named.{places_named}
use Rattle.block_cache.specs.Undone.{lives_of}
use Rattle.block_cache.specs.Kept.{AreKept}
use Rattle.block_cache.proofs.Resting.{resting_kept, resting_view}
use Rattle.block_cache.proofs.Named.{root_found}
use Rattle.block_cache.proofs.cache.Cache.found.Goals as goal

pub invariant_of-result : goal.invariant_of-result
invariant_of-result c =
    let found = c.args.found.now in
    let blocks = c.args.blocks.now in
    let view = ap (lives_of c.new.result) c.in_ok-found.ensures ∙ resting_view found blocks c.new.result (range_with_len 0 (length found)) in
    record {
      kept = subst (AreKept c.new.result) (sym c.in_ok-found.ensures) (resting_kept found blocks c.new.result (length found) c.requires.few c.new.ensures.empty);
      named = c.named_in.ensures ∙ ap places_named (sym (root_found found blocks) ∙ sym (ap (λ (ls : Lives). root_on_disk ls) view));
    }

pub returns : goal.returns
returns c =
    ap (lives_of c.new.result) c.in_ok-found.ensures
    ∙ resting_view c.args.found.now c.args.blocks.now c.new.result (range_with_len 0 (length c.args.found.now))
