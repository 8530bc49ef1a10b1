use Rattle.std.proofs.Common.{◌∙◌, ◌+◌, ap, length, refl, subst, sym, rules, eqb-true}
use Rattle.ffs_lib.proofs.Common.{StoreState, eqb-false, file_end, files_of, latest, mapped, nil_from_length, write_in, written}
use Rattle.ffs_lookup.proofs.ForCallers.{written_told}
use Rattle.ffs_lib.specs.Volumes.{edits_of}
use Rattle.ffs_lib.specs.WriteOrder.{ShowsWhole, after_in}
use Rattle.ffs_lib.specs.Written.{written_stages}
use Rattle.ffs_lib.proofs.Tests.{never}
use Rattle.ffs_lib.proofs.Staged.{does_fault}
use Rattle.ffs_lib.proofs.StagedWritten.{Begun, begun, found_file, none_does, overwrites_none, volume_of, write_done, write_inodes, write_part_inodes, write_refused}
use Rattle.ffs_lib.proofs.ValueWritten.{looked}
use Rattle.ffs_lib.proofs.Waiting.{shows_same}
use Rattle.ffs_lib.proofs.WrittenOrder.{none_reached, order_none, shown, size_order, stops_order}
use Rattle.ffs_lib.proofs.volume.Volume.write.Goals as goal
use Rattle.ffs_lib.proofs.volume.Volume.write.Goals.{After-write_parts-progress}

first : (g : _) (c : After-write_parts-progress g) →
    Begun (g.S.Store.types_of c.args.store.now) c.args.self.now.fs.number (edits_of c.args.self.now.added) (g.S.Store.state_of c.args.store.now) (g.S.Store.state_of c.write_parts-progress.new.store) c.args.inode c.in_ok-end.end c.args.offset c.args.bytes.now
    c.write_parts-progress.result
first g c =
    begun (g.S.Store.types_of c.args.store.now) c.args.self.now (g.S.Store.state_of c.args.store.now) (g.S.Store.state_of c.write_parts-progress.new.store) c.args.inode c.args.offset c.in_ok-end.end c.args.bytes.now c.write_parts-progress.result
    c.requires c.args.self.now.fs.few c.in_ok-end.ensures.exact (eqb-false (length c.args.bytes.now) 0 (sym c.if-is_empty.ensures)) c.write_parts-progress.ensures.whole c.write_parts-progress.ensures.parts

pub returns-in_err-end-clause-answers : goal.returns-in_err-end-clause-answers
returns-in_err-end-clause-answers g c =
    let old = g.S.Store.state_of c.args.store.now in
    let fs = c.args.self.now.fs.number in
    let n = c.args.inode in
    let u = latest old.lives in
    let bytes = c.args.bytes.now in
    does_fault (g.S.Store.types_of c.args.store.now) fs (write_in u fs n (c.args.offset + length bytes)) (written (files_of u fs) n c.args.offset bytes)
    (written_stages (files_of u fs) (after_in (g.S.Store.types_of c.args.store.now) fs n c.args.offset bytes old) n c.args.offset bytes) old old c.from_residual.result
    (written_told u fs n c.args.offset bytes) (search rules)

pub returns-in_err-end-clause-inodes : goal.returns-in_err-end-clause-inodes
returns-in_err-end-clause-inodes g c = λ file e. absurd (never (file_end file) _ (ap (mapped file_end) e ∙ sym (c.in_err-end.ensures.exact c.requires.library)))

pub returns-in_err-end-clause-order : goal.returns-in_err-end-clause-order
returns-in_err-end-clause-order g c = λ file e. absurd (never (file_end file) _ (ap (mapped file_end) e ∙ sym (c.in_err-end.ensures.exact c.requires.library)))

pub returns-then-is_empty : goal.returns-then-is_empty
returns-then-is_empty g c =
    let T = g.S.Store.types_of c.args.store.now in
    let old = g.S.Store.state_of c.args.store.now in
    let fs = c.args.self.now.fs.number in
    let n = c.args.inode in
    let offset = c.args.offset in
    let bytes = c.args.bytes.now in
    let none = nil_from_length bytes (eqb-true (length bytes) 0 (sym c.is_empty.ensures ∙ c.if-is_empty.true)) in
    let f = found_file (latest old.lives) fs n (offset + length bytes) c.in_ok-end.end (c.in_ok-end.ensures.exact c.requires.library) in
    record {
      types = search rules;
      answers = none_does T fs old n f.0 offset bytes f.1 none (after_in T fs n offset bytes old) f.3;
      inodes = λ file e. (overwrites_none T fs old n file offset bytes (looked (latest old.lives) fs n (offset + length bytes) file e).0 none, λ some. absurd (some none));
      order = λ file e. order_none T fs n file offset bytes old _ none;
      cuts = λ file there e grow made. subst (λ (s : StoreState). ShowsWhole s old) (none_reached T fs n file offset bytes old there none grow made) (shows_same T old c.requires.keeps.consistent);
      none = search rules;
      keeps = search rules;
    }

pub returns-in-Some : goal.returns-in-Some
returns-in-Some g c =
    let b = first g (goal.at.returns-in-Some g c).After-write_parts-progress in
    record {
      types = search rules;
      answers = write_refused _ _ _ _ _ _ _ _ _ _ b _ c.in-Some.is;
      inodes = write_part_inodes _ _ _ _ _ _ _ _ _ _ b _ c.in-Some.is;
      order = stops_order _ _ _ _ _ _ _ _ _ _ b _ c.in-Some.is;
      cuts = λ file there e grow made. tt;
      none = λ z. absurd (b.there z);
      keeps = volume_of (g.S.Store.types_of c.args.store.now) c.args.self.now _ b.first.stage;
    }

pub returns-in-None : goal.returns-in-None
returns-in-None g c =
    let b = first g (goal.at.returns-in-None g c).After-write_parts-progress in
    let w = b.first.puts.wrote b.inode b.is in
    let types = c.write_parts-progress.ensures.types in
    let x = c.raise_size.ensures.ends _ _ w.after types b.first.stage w.file b.first.given.1 in
    let acts = c.raise_size.ensures.order _ _ w.after types b.first.stage w.file in
    record {
      types = search rules;
      answers = write_done _ _ _ _ _ _ _ _ _ _ b c.in-None.is _ c.raise_size.result x.1;
      inodes = write_inodes _ _ _ _ _ _ _ _ _ _ b c.in-None.is _ c.raise_size.result acts x.1;
      order = size_order _ _ _ _ _ _ _ _ _ _ b c.in-None.is _ c.raise_size.result acts;
      cuts = λ file there e grow made.
          let k = shown _ _ _ _ _ _ _ _ _ _ b _ (b.whole c.in-None.is) file e grow there made in
          c.raise_size.ensures.cuts _ _ w.after c.write_parts-progress.result.last there.0 types b.first.stage w.file k.0 refl k.1 k.2;
      none = λ z. absurd (b.there z);
      keeps = volume_of _ c.args.self.now _ x.0;
    }
