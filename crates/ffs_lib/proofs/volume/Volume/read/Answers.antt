use Rattle.std.proofs.Common.{◌≡◌, ◌+◌, ◌-◌, ◌∙◌, ℕ, Ok, ap, arith, length, min}
use Rattle.ffs_lib.proofs.Common.{byte_of, err_from_is_err_and, file_end, latest, read_count, read_into}
use Rattle.ffs_lookup.proofs.ForCallers.{count_told, into_told}
use Rattle.ffs_lib.proofs.Parts.{read_done, read_step}
use Rattle.ffs_lib.proofs.volume.Volume.read.Goals as goal

pub loop-done-preserved : goal.loop-done-preserved
loop-done-preserved g c =
    let content = latest (g.S.Store.state_of c.args.store.now).lives in
    let done = c.loop-done.done in
    let n = c.min-length.result in
    let k : done + n - done ≡ n = omega arith in
    record {
      within = omega arith;
      bytes = read_step (byte_of content c.in_ok-file.file.inode) c.args.offset done n (done + n - done) c.loop-done.bytes c.args.bytes.now c.read_part.new.bytes k (omega arith) c.loop-done.invariant.bytes c.in_ok-read_part.ensures.bytes;
    }

pub returns-clause-value : goal.returns-clause-value
returns-clause-value g c = λ lib.
    let file = c.in_ok-file.ensures.exact lib in
    let e : c.min-count.result ≡ min (length c.args.bytes.now) (file_end c.in_ok-file.file.inode - c.args.offset) = omega arith in
    ap (λ (k : ℕ). Ok k) e ∙ (ap (read_count (length _) c.args.offset) file ∙ count_told (latest (g.S.Store.state_of c.args.store.now).lives) c.args.self.now.fs.number c.args.inode c.args.offset (length _))

pub returns-in_err-file-clause-value : goal.returns-in_err-file-clause-value
returns-in_err-file-clause-value g c = λ lib.
    let p = err_from_is_err_and c.from_residual.result c.from_residual.ensures.1 in
    rw (p.1, p.2)
    (ap (read_count (length c.args.bytes.now) c.args.offset) (c.in_err-file.ensures.exact lib) ∙ count_told _ c.args.self.now.fs.number c.args.inode c.args.offset (length c.args.bytes.now))

pub returns-in_err-file-clause-bytes : goal.returns-in_err-file-clause-bytes
returns-in_err-file-clause-bytes g c = λ lib.
    let content = latest (g.S.Store.state_of c.args.store.now).lives in
    ap (read_into content c.args.bytes.now c.args.offset) (c.in_err-file.ensures.exact lib) ∙ into_told content c.args.self.now.fs.number c.args.inode c.args.offset c.args.bytes.now

pub returns-clause-bytes : goal.returns-clause-bytes
returns-clause-bytes g c = λ lib.
    let content = latest (g.S.Store.state_of c.args.store.now).lives in
    let e : c.loop-done.done ≡ min (length c.args.bytes.now) (file_end c.in_ok-file.file.inode - c.args.offset) = omega arith in
    c.loop-done.invariant.bytes
    ∙ (read_done content c.in_ok-file.file.inode c.args.offset c.loop-done.done _ e
    ∙ (ap (read_into content _ c.args.offset) (c.in_ok-file.ensures.exact lib) ∙ into_told content c.args.self.now.fs.number c.args.inode c.args.offset _))
