use Rattle.std.proofs.Common.{rules, ◌∙◌, ◌+◌, ◌*◌, ℕ, [], Err, Ok, inl, inr, replicate, subst, sym}
use Rattle.ffs_lib.proofs.Common.{StayNamed, StoreState, latest, library_layout, propose_of}
use Rattle.ffs_lib.specs.Edits.{edit_at}
use Rattle.ffs_lib.specs.Orders.{Edits, Orders, removed_edits, taken_edits}
use Rattle.ffs_lib.specs.Replacing.{pair_of}
use Rattle.ffs_lib.proofs.Laws.{clears, clears_short, fails, may_lose, same_stage, short_told}
use Rattle.ffs_lib.proofs.Orders.{cleared_taken, none_order, order_err, then_order}
use Rattle.ffs_lib.proofs.PairLaws.{direct_cleared, pairs_cleared}
use Rattle.ffs_lib.proofs.TurnLaws.{clear_waits}
use Rattle.ffs_lib.proofs.volume.Volume.remove.Goals as goal

pub returns-in_err-cleared : goal.returns-in_err-cleared
returns-in_err-cleared g c =
    let old = g.S.Store.state_of c.args.store.now in
    let edit = edit_at (32 * c.args.slot.place) (replicate 32 0) [] [] c.args.after in
    record {
      types = search rules;
      ends = λ T array e s given.
          let p = c.in_err-cleared.ensures.put T e in
          fails _ _ (same_stage s p.0) c.from_residual.result _ c.from_residual.ensures.1
          (short_told (propose_of T old _ c.args.slot.block edit) (clears_short T _ array old s _ c.requires c.args.after given) _ p.1, inl (p.0, (edit, p.1)));
      order = λ T array e s given.
          let p = c.in_err-cleared.ensures.put T e in
          none_order T _ (removed_edits (latest old.lives) _ c.args.slot c.args.after old.next) old (g.S.Store.state_of c.put.new.store) p.0 _ c.from_residual.result c.from_residual.ensures.1;
      waits = search rules;
      pairs = λ T array first to a e s comes direct apart x. subst (λ (m : StoreState). StayNamed library_layout first m.lives (pair_of c.args.slot to) c.args.after) (sym (c.in_err-cleared.ensures.put T e).0) x;
    }

pub returns-in_err-take_link : goal.returns-in_err-take_link
returns-in_err-take_link g c =
    let fs = c.args.self.now.fs.number in
    let old = g.S.Store.state_of c.args.store.now in
    let slot = c.args.slot in
    let new = g.S.Store.state_of c.take_link.new.store in
    record {
      types = search rules;
      ends = λ T array e s given.
          let first = g.S.Store.state_of c.put.new.store in
          let k = clears T c.args.self.now.fs.number array (g.S.Store.state_of c.args.store.now) s first c.args.slot c.requires c.args.after c.in_ok-cleared.cleared (c.in_ok-cleared.ensures.put T e) in
          let x = c.in_err-take_link.ensures.ends T array (c.put.ensures.types ∙ e) k.stage (may_lose s c.requires k) in
          fails _ _ x.0 c.from_residual-in_err-take_link.result _ c.from_residual-in_err-take_link.ensures.1 (x.1.0, inr (first, k.content, x.1.1));
      order = λ T array e s given.
          let first = g.S.Store.state_of c.put.new.store in
          let done = c.in_ok-cleared.ensures.put T e in
          let k = clears T fs array old s first slot c.requires c.args.after c.in_ok-cleared.cleared done in
          let o = c.in_err-take_link.ensures.order T array (c.put.ensures.types ∙ e) k.stage (may_lose s c.requires k) in
          let same = cleared_taken T s.library fs s.few old first s.keeps.consistent slot c.requires c.args.after c.in_ok-cleared.cleared done in
          order_err T fs (removed_edits (latest old.lives) fs slot c.args.after old.next) old new
          (then_order {A = ℕ} T fs slot.block (edit_at (32 * slot.place) (replicate 32 0) [] [] c.args.after) (taken_edits (latest old.lives) fs slot.inode old.next (old.next + 1)) old first new c.in_ok-cleared.cleared done (Err c.in_err-take_link.field-0.0)
          (subst (λ (edits : Edits). Orders {A = ℕ} T fs edits first new (Err c.in_err-take_link.field-0.0)) same o)) _ c.from_residual-in_err-take_link.result c.from_residual-in_err-take_link.ensures.1;
      waits = search rules;
      pairs = λ T array first to a e s comes direct apart x.
          let done = c.in_ok-cleared.ensures.put T e in
          let k = clears T fs array old s _ slot c.requires c.args.after _ done in
          let y = pairs_cleared T fs array old s slot c.requires _ first to a _ c.args.after comes done apart x in
          let direct2 = direct_cleared T fs array old s slot c.requires _ _ c.args.after done (pair_of slot to) direct in
          c.in_err-take_link.ensures.pairs T array (c.put.ensures.types ∙ e) k.stage (may_lose s c.requires k) first (pair_of slot to) c.args.after direct2 y;
    }

pub returns : goal.returns
returns g c =
    let old = g.S.Store.state_of c.args.store.now in
    let slot = c.args.slot in
    let new = g.S.Store.state_of c.take_link.new.store in
    record {
      types = search rules;
      ends = λ T array e s given.
          let k = clears T c.args.self.now.fs.number array (g.S.Store.state_of c.args.store.now) s _ c.args.slot c.requires c.args.after c.in_ok-cleared.cleared (c.in_ok-cleared.ensures.put T e) in
          let x = c.in_ok-take_link.ensures.ends T array (c.put.ensures.types ∙ e) k.stage (may_lose s c.requires k) in
          (x.0, record { middle = latest (g.S.Store.state_of c.put.new.store).lives; cleared = k.content; took = x.1 });
      order = λ T array e s given.
          let done = c.in_ok-cleared.ensures.put T e in
          let k = clears T _ array old s _ slot c.requires c.args.after c.in_ok-cleared.cleared done in
          let o = c.in_ok-take_link.ensures.order T array (c.put.ensures.types ∙ e) k.stage (may_lose s c.requires k) in
          let same = cleared_taken T s.library _ s.few old _ s.keeps.consistent slot c.requires c.args.after c.in_ok-cleared.cleared done in
          then_order T _ slot.block (edit_at (32 * slot.place) (replicate 32 0) [] [] c.args.after) (taken_edits (latest old.lives) _ slot.inode old.next (old.next + 1)) old _ new c.in_ok-cleared.cleared done (Ok c.in_ok-take_link.field-0)
          (subst (λ (edits : Edits). Orders T c.args.self.now.fs.number edits (g.S.Store.state_of c.put.new.store) new (Ok c.in_ok-take_link.field-0)) same o);
      waits = λ T array n a e s given other m.
          let done = c.in_ok-cleared.ensures.put T e in
          let k = clears T _ array old s _ c.args.slot c.requires c.args.after c.in_ok-cleared.cleared done in
          c.in_ok-take_link.ensures.waits T array n a (c.put.ensures.types ∙ e) k.stage (may_lose s c.requires k) other (clear_waits T _ array old s n a m _ c.args.slot c.requires c.args.after c.in_ok-cleared.cleared done);
      pairs = λ T array first to a e s comes direct apart x.
          let done = c.in_ok-cleared.ensures.put T e in
          let k = clears T _ array old s _ slot c.requires c.args.after _ done in
          let y = pairs_cleared T _ array old s slot c.requires _ first to a _ c.args.after comes done apart x in
          let direct2 = direct_cleared T _ array old s slot c.requires _ _ c.args.after done (pair_of slot to) direct in
          c.in_ok-take_link.ensures.pairs T array (c.put.ensures.types ∙ e) k.stage (may_lose s c.requires k) first (pair_of slot to) c.args.after direct2 y;
    }
