use Rattle.std.proofs.Common.{◌≡◌, ◌∙◌, ℕ, Ok, ap, inl, inr, subst, sym, rules}
use Rattle.ffs_lib.proofs.Common.{create_in, directory_in, latest}
use Rattle.ffs_lib.specs.Results.{IsLowestNumber, MadeEntry, SameOrNew}
use Rattle.ffs_lib.specs.Steps.{StopsMaking, StopsNew}
use Rattle.ffs_lib.specs.Volumes.{edits_of}
use Rattle.ffs_lib.proofs.Entering.{directory_from, directory_same, stays_made}
use Rattle.ffs_lib.proofs.Laws.{answers_ok, is_ok_one, match_then, stops_err}
use Rattle.ffs_lib.proofs.Linked.{free_pointer, same_room}
use Rattle.ffs_lib.proofs.MakeLaws.{named_by}
use Rattle.ffs_lib.proofs.NewOrder.{creates_stop, creates_then, new_lowest, new_refused, not_refused}
use Rattle.ffs_lib.proofs.volume.Volume.make_entry.Goals as goal

pub take_free-requires-clause-room : goal.take_free-requires-clause-room
take_free-requires-clause-room g c = λ none.
    let old = g.S.Store.state_of c.args.store.now in
    let x = c.in_ok-found.ensures.room c.requires.volume.library in
    free_pointer (g.S.Store.types_of c.args.store.now) _ (edits_of c.args.self.now.added) old c.requires.volume.keeps c.args.directory x.0 (directory_from (latest old.lives) _ c.args.directory x.0 x.1).0 (c.in_ok-found.ensures.pointer none)

pub returns-in_err-found-clause-order : goal.returns-in_err-found-clause-order
returns-in_err-found-clause-order g c = λ n e.
    absurd (new_refused (latest (g.S.Store.state_of c.args.store.now).lives) c.args.self.now.fs.number c.args.directory c.args.name.now n _ (c.in_err-found.ensures.exact c.requires.volume.library) e)

pub returns-in_err-free : goal.returns-in_err-free
returns-in_err-free g c =
    let old = g.S.Store.state_of c.args.store.now in
    let new = g.S.Store.state_of c.take_free.new.store in
    let x = is_ok_one _ (c.in_ok-found.ensures.exact c.requires.volume.library) in
    let stop = c.in_err-free.ensures.leaves.1 in
    record {
      types = search rules;
      fs = search rules;
      answers =
          answers_ok _ (λ _ n. MadeEntry (latest old.lives) (latest new.lives) _ _ c.args.name.now _ n × IsLowestNumber (latest old.lives) _ n) (λ _ fault. StopsMaking _ _ old new _ c.args.name.now _ fault) c.from_residual-in_err-free.result x.0 old new x.1
          (stops_err _ (StopsMaking _ _ old new _ c.args.name.now _) c.from_residual-in_err-free.result _ c.from_residual-in_err-free.ensures.1 (stop.0, inl stop.1));
      order = λ n e.
          creates_stop (g.S.Store.types_of c.args.store.now) _ c.args.directory c.args.name.now c.args.mode n (edits_of c.args.self.now.added) (edits_of c.take_free.new.self.added) (g.S.Store.state_of c.args.store.now) (g.S.Store.state_of c.take_free.new.store)
          c.in_err-free.field-0.0 c.in_err-free.ensures.order c.from_residual-in_err-free.result c.from_residual-in_err-free.ensures.1;
      added = λ fault e. absurd (not_refused _ fault e (c.in_ok-found.ensures.exact c.requires.volume.library));
      keeps = search rules;
    }

pub returns : goal.returns
returns g c =
    let middle = g.S.Store.state_of c.take_free.new.store in
    let fs = c.args.self.now.fs.number in
    let stays = c.in_ok-free.ensures.leaves.1.stays in
    let lowest = c.in_ok-free.ensures.leaves.1.lowest in
    let same = ap (λ f. f.number) c.take_free.ensures.fs in
    record {
      types = search rules;
      fs = search rules;
      answers =
          let u = latest (g.S.Store.state_of c.args.store.now).lives in
          let v = latest middle.lives in
          let x = is_ok_one (create_in u fs _ _) (c.in_ok-found.ensures.exact c.requires.volume.library) in
          let dir = c.in_ok-found.ensures.room c.requires.volume.library in
          let y = named_by (g.S.Store.types_of c.take_free.new.store) _ c.take_free.new.self.fs.number fs middle _ _ _ _ _ c.name_inode.new.self c.name_inode.result (ap (λ f. f.number) c.take_free.ensures.fs) c.take_free.ensures.types c.name_inode.ensures.leaves (dir.0) (dir.1 ∙ sym (directory_same u v fs _ (stays _).0)) (same_room u v fs _ dir.0 ((stays _).0, (stays _).1) (directory_from u fs _ dir.0 dir.1).0 ∙ dir.2) in
          answers_ok (create_in u fs _ _) (λ _ n. MadeEntry u _ fs _ _ _ n × IsLowestNumber u fs n) (λ _ fault. StopsMaking _ fs _ _ _ _ _ fault) c.name_inode.result x.0 _ _ x.1
          (match_then (λ n. MadeEntry v _ fs _ _ _ n × (n ≡ _)) (λ n. MadeEntry u _ fs _ _ _ n × IsLowestNumber u fs n) (StopsNew _ fs middle _ _ _ _ _) (StopsMaking _ fs _ _ _ _ _) c.name_inode.result
          (λ n made. (stays_made u v _ fs _ _ _ n (λ e. subst (λ (m : ℕ). SameOrNew u v fs m e) (sym made.1) (stays e)) made.0, subst (IsLowestNumber u fs) (sym made.1) lowest)) (λ fault r. inr (middle, c.in_ok-free.free, c.in_ok-free.ensures.leaves.1, r)) y.1);
      order = λ n e.
          let v = latest middle.lives in
          let dir = c.in_ok-found.ensures.room c.requires.volume.library in
          let again : Ok dir.0 ≡ directory_in v fs c.args.directory = dir.1 ∙ sym (directory_same _ v fs _ (stays _).0) in
          let names = c.name_inode.ensures.order dir.0 (subst (λ (x : ℕ). Ok dir.0 ≡ directory_in v x c.args.directory) (sym same) again) (same_room _ v fs _ dir.0 ((stays _).0, (stays _).1) (directory_from _ fs _ dir.0 dir.1).0 ∙ dir.2) in
          creates_then _ (g.S.Store.types_of c.take_free.new.store) fs c.take_free.new.self.fs.number _ _ c.args.mode n _ (edits_of c.args.self.now.added) (edits_of c.take_free.new.self.added) (edits_of c.name_inode.new.self.added) _ middle (g.S.Store.state_of c.name_inode.new.store)
          c.take_free.ensures.types same (new_lowest _ fs _ _ n _ e c.in_ok-free.ensures.leaves.1.lowest) c.in_ok-free.ensures.order c.name_inode.result names;
      added = λ fault e. absurd (not_refused _ fault e (c.in_ok-found.ensures.exact c.requires.volume.library));
      keeps =
          let dir = c.in_ok-found.ensures.room c.requires.volume.library in
          let y = named_by (g.S.Store.types_of c.take_free.new.store) _ c.take_free.new.self.fs.number fs middle _ _ c.args.name.now c.args.mode c.in_ok-free.free.number c.name_inode.new.self c.name_inode.result (ap (λ f. f.number) c.take_free.ensures.fs) c.take_free.ensures.types c.name_inode.ensures.leaves (dir.0) (dir.1 ∙ sym (directory_same _ _ fs _ (stays _).0)) (same_room _ _ fs _ dir.0 ((stays _).0, (stays _).1) (directory_from _ fs _ dir.0 dir.1).0 ∙ dir.2) in
          y.0;
    }
