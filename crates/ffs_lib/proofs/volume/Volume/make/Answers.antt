use Rattle.std.proofs.Common.{rules, ◌∙◌, ℕ, Option, Ok, Err, ap, refl, subst, sym}
use Rattle.ffs_lib.proofs.Common.{FfsFault, VolumeKeeps, err_from_is_err_and, library_layout, mapped}
use Rattle.ffs_lib.proofs.Kept.{on_err}
use Rattle.ffs_lib.proofs.Making.{no_numbers}
use Rattle.ffs_lib.proofs.NewOrder.{make_stops}
use Rattle.ffs_lib.proofs.Opening.{make_found, make_stage}
use Rattle.ffs_lib.proofs.ValueVolume.{make_does, make_fails, never_made}
use Rattle.ffs_lib.proofs.volume.Volume.make.Goals as goal

pub returns-in_err-begun : goal.returns-in_err-begun
returns-in_err-begun g c =
    let p = err_from_is_err_and c.from_residual.result c.from_residual.ensures.1 in
    record {
      types = search rules;
      ok = search rules;
      fs = search rules;
      added = search rules;
      answers =
          make_fails (g.S.Store.types_of c.args.store.now) (g.S.Store.state_of c.args.store.now) c.args.fs.number _ _ c.in_err-begun.ensures.exact
          (ap (mapped (λ volume. tt)) (p.1 ∙ ap (λ (fault : FfsFault). Err fault) p.2));
      order = λ ok. absurd (never_made (g.S.Store.state_of c.args.store.now) c.args.fs.number _ c.in_err-begun.ensures.exact ok);
      err = λ ok. absurd (never_made (g.S.Store.state_of c.args.store.now) c.args.fs.number _ c.in_err-begun.ensures.exact ok);
    }

pub returns-in_err-make_first : goal.returns-in_err-make_first
returns-in_err-make_first g c =
    let fs = c.args.fs.number in
    let T = g.S.Store.types_of c.args.store.now in
    let zeroth = g.S.Store.state_of c.args.store.now in
    let exact = c.in_ok-begun.ensures.exact in
    let s = make_stage T zeroth c.look_up_root.ensures.rules fs c.args.fs.few c.requires c.in_ok-begun.begun exact in
    let h = c.in_err-make_first.ensures.ends T refl s (make_found zeroth fs c.in_ok-begun.begun exact).1 in
    let p = err_from_is_err_and c.from_residual-in_err-make_first.result c.from_residual-in_err-make_first.ensures.1 in
    record {
      types = search rules;
      ok = search rules;
      fs = search rules;
      added = search rules;
      answers =
          make_does T zeroth (g.S.Store.state_of c.make_first.new.store) fs c.in_ok-begun.begun exact (Err c.in_err-make_first.field-0.0) h.1 _
          (ap (mapped (λ volume. tt)) (p.1 ∙ ap (λ (fault : FfsFault). Err fault) p.2));
      order = λ ok. make_stops T fs zeroth (g.S.Store.state_of c.make_first.new.store) _ h.1.1 c.from_residual-in_err-make_first.result c.from_residual-in_err-make_first.ensures.1;
      err = λ ok. on_err c.from_residual-in_err-make_first.result h.0.keeps;
    }

pub returns : goal.returns
returns g c =
    let T = g.S.Store.types_of c.args.store.now in
    let zeroth = g.S.Store.state_of c.args.store.now in
    let exact = c.in_ok-begun.ensures.exact in
    record {
      types = search rules;
      ok =
          let s = make_stage T zeroth c.look_up_root.ensures.rules _ c.args.fs.few c.requires c.in_ok-begun.begun exact in
          let h = c.in_ok-make_first.ensures.ends T refl s (make_found zeroth _ c.in_ok-begun.begun exact).1 in
          record {
            library = c.requires.library;
            keeps = subst (λ (array : ℕ → Option ℕ). VolumeKeeps T library_layout c.args.fs.number array (g.S.Store.state_of c.make_first.new.store)) no_numbers h.0.keeps;
          };
      fs = search rules;
      added = sym no_numbers;
      answers =
          let s = make_stage T zeroth c.look_up_root.ensures.rules _ c.args.fs.few c.requires c.in_ok-begun.begun exact in
          let h = c.in_ok-make_first.ensures.ends T refl s (make_found zeroth _ c.in_ok-begun.begun exact).1 in
          make_does T zeroth (g.S.Store.state_of c.make_first.new.store) _ c.in_ok-begun.begun exact (Ok c.in_ok-make_first.field-0) h.1 _ refl;
      order = λ ok.
          let s = make_stage (g.S.Store.types_of c.args.store.now) zeroth c.look_up_root.ensures.rules _ c.args.fs.few c.requires c.in_ok-begun.begun exact in
          c.in_ok-make_first.ensures.order (g.S.Store.types_of c.args.store.now) refl s (make_found zeroth _ c.in_ok-begun.begun exact).1;
      err = search rules;
    }
