use Rattle.std.proofs.Common.{◌∙◌, ◌+◌, ◌<◌, ap, length, refl, sym, rules, eqb-true}
use Rattle.ffs_lib.proofs.Common.{eqb-false, file_end, files_of, latest, mapped, nil_from_length, write_in, written}
use Rattle.ffs_lookup.proofs.ForCallers.{written_told}
use Rattle.ffs_lib.specs.Volumes.{edits_of}
use Rattle.ffs_lib.specs.WriteOrder.{ShowsWhole, after_in}
use Rattle.ffs_lib.proofs.Tests.{never}
use Rattle.ffs_lib.proofs.StagedWritten.{Begun, begun, count_none, count_refused, count_taken, fault_takes, found_file, none_takes, overwrites_none, same_taken, volume_of}
use Rattle.ffs_lib.proofs.ValueWritten.{looked}
use Rattle.ffs_lib.proofs.WrittenOrder.{none_order, none_shows, refused_order, shown, some_order_none, taken_order, taken_place}
use Rattle.ffs_lib.proofs.volume.Volume.write_some.Goals as goal
use Rattle.ffs_lib.proofs.volume.Volume.write_some.Goals.{After-write_parts-progress}

first : (g : _) (c : After-write_parts-progress g) →
    Begun (g.S.Store.types_of c.args.store.now) c.args.self.now.fs.number (edits_of c.args.self.now.added) (g.S.Store.state_of c.args.store.now) (g.S.Store.state_of c.write_parts-progress.new.store) c.args.inode c.in_ok-end.end c.args.offset c.args.bytes.now
    c.write_parts-progress.result
first g c =
    begun (g.S.Store.types_of c.args.store.now) c.args.self.now (g.S.Store.state_of c.args.store.now) (g.S.Store.state_of c.write_parts-progress.new.store) c.args.inode c.args.offset c.in_ok-end.end c.args.bytes.now c.write_parts-progress.result
    c.requires c.args.self.now.fs.few c.in_ok-end.ensures.exact (eqb-false (length c.args.bytes.now) 0 (sym c.if-is_empty.ensures)) c.write_parts-progress.ensures.whole c.write_parts-progress.ensures.parts

pub returns-in_err-end-clause-answers : goal.returns-in_err-end-clause-answers
returns-in_err-end-clause-answers g c =
    let old = g.S.Store.state_of c.args.store.now in
    let fs = c.args.self.now.fs.number in
    let n = c.args.inode in
    let u = latest old.lives in
    let bytes = c.args.bytes.now in
    fault_takes (g.S.Store.types_of c.args.store.now) fs (files_of u fs) (after_in (g.S.Store.types_of c.args.store.now) fs n c.args.offset bytes old) n c.args.offset bytes (write_in u fs n (c.args.offset + length bytes)) (written (files_of u fs) n c.args.offset bytes) old old c.from_residual.result
    (written_told u fs n c.args.offset bytes) (search rules)

pub returns-in_err-end-clause-inodes : goal.returns-in_err-end-clause-inodes
returns-in_err-end-clause-inodes g c = λ file e. absurd (never (file_end file) _ (ap (mapped file_end) e ∙ sym (c.in_err-end.ensures.exact c.requires.library)))

pub returns-in_err-end-clause-order : goal.returns-in_err-end-clause-order
returns-in_err-end-clause-order g c = λ file e. absurd (never (file_end file) _ (ap (mapped file_end) e ∙ sym (c.in_err-end.ensures.exact c.requires.library)))

pub returns-then-is_empty : goal.returns-then-is_empty
returns-then-is_empty g c =
    let T = g.S.Store.types_of c.args.store.now in
    let old = g.S.Store.state_of c.args.store.now in
    let none = nil_from_length _ (eqb-true (length _) 0 (sym c.is_empty.ensures ∙ c.if-is_empty.true)) in
    let f = found_file (latest old.lives) _ _ (c.args.offset + length _) c.in_ok-end.end (c.in_ok-end.ensures.exact c.requires.library) in
    record {
      types = search rules;
      answers = none_takes T _ old _ f.0 _ _ f.1 none (after_in T _ _ _ _ old) f.3;
      inodes = λ file e. (overwrites_none T _ old _ file _ _ (looked (latest old.lives) _ _ (c.args.offset + length _) file e).0 none, λ z some. absurd (some none));
      order = λ file e. some_order_none T _ _ file _ _ old _ none;
      cuts = λ file there e made some. absurd (some refl);
      none = search rules;
      keeps = search rules;
    }

pub returns-then-taken-eq0 : goal.returns-then-taken-eq0
returns-then-taken-eq0 g c =
    let b = first g (goal.at.returns-then-taken-eq0 g c).After-write_parts-progress in
    let same = same_taken _ _ _ _ _ _ _ _ _ _ b _ _ c.min.ensures c.saturating_sub-taken.ensures in
    let told = c.none_taken.ensures in
    let k = count_none _ _ _ _ _ _ _ _ _ _ b c.saturating_sub-taken.result same c.if-taken-eq0.true c.none_taken.result (told.none, told.count, told.err) in
    record {
      types = search rules;
      answers = k.0;
      inodes = k.1;
      order = none_order _ _ _ _ _ _ _ _ _ _ b c.saturating_sub-taken.result same c.if-taken-eq0.true c.none_taken.result told.count;
      cuts = λ file there e made. none_shows c.none_taken.result told.count (λ count. file_end file < c.args.offset + count → ShowsWhole there.0 (g.S.Store.state_of c.write_parts-progress.new.store));
      none = λ z. absurd (b.there z);
      keeps = volume_of (g.S.Store.types_of c.args.store.now) c.args.self.now _ b.first.stage;
    }

pub returns-in-Ok : goal.returns-in-Ok
returns-in-Ok g c =
    let b = first g (goal.at.returns-in-Ok g c).After-write_parts-progress in
    let w = b.first.puts.wrote b.inode b.is in
    let types = c.write_parts-progress.ensures.types in
    let same = same_taken _ _ _ _ _ _ _ _ _ _ b _ _ c.min.ensures c.saturating_sub-taken.ensures in
    let x = c.in-Ok.ensures.ends _ _ w.after types b.first.stage w.file b.first.given.1 in
    let k = count_taken _ _ _ _ _ _ _ _ _ _ b _ same c.if-taken-eq0.false _ x.1 in
    record {
      types = search rules;
      answers = k.0;
      inodes = k.1;
      order = taken_order _ _ _ _ _ _ _ _ _ _ b _ same c.if-taken-eq0.false _ (c.in-Ok.ensures.order _ _ w.after types b.first.stage w.file);
      cuts = λ file there e made ne grow.
          let h = shown _ _ _ _ _ _ _ _ _ _ b _ (taken_place _ _ _ _ _ _ _ _ _ _ b _ same ne) file e grow there made in
          c.in-Ok.ensures.cuts _ _ w.after c.write_parts-progress.result.last there.0 types b.first.stage w.file h.0 refl h.1 h.2;
      none = λ z. absurd (b.there z);
      keeps = volume_of _ c.args.self.now _ x.0;
    }

pub returns-in-Err : goal.returns-in-Err
returns-in-Err g c =
    let b = first g (goal.at.returns-in-Err g c).After-write_parts-progress in
    let w = b.first.puts.wrote b.inode b.is in
    let types = c.write_parts-progress.ensures.types in
    let same = same_taken _ _ _ _ _ _ _ _ _ _ b _ _ c.min.ensures c.saturating_sub-taken.ensures in
    let x = c.in-Err.ensures.ends _ _ w.after types b.first.stage w.file b.first.given.1 in
    let told = c.none_taken-in-Err.ensures in
    let k = count_refused _ _ _ _ _ _ _ _ _ _ b _ same c.if-taken-eq0.false _ c.in-Err.fault x.1 _ (told.none, told.count, told.err) in
    record {
      types = search rules;
      answers = k.0;
      inodes = k.1;
      order = refused_order _ _ _ _ _ _ _ _ _ _ b _ same c.if-taken-eq0.false _ c.in-Err.fault x.1.1.1.0 (c.in-Err.ensures.order _ _ w.after types b.first.stage w.file) _ told.count;
      cuts = λ file there e made. none_shows _ told.count (λ k. file_end file < c.args.offset + k → ShowsWhole there.0 _);
      none = λ z. absurd (b.there z);
      keeps = volume_of _ c.args.self.now _ x.0;
    }
