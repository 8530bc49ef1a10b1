use Rattle.std.proofs.Common.{◌≡◌, ◌+◌, ◌<◌, ◌∙◌, ℕ, Ok, Err, Result, ap, arith, min}
use Rattle.ffs_lib.proofs.Common.{FfsFault, err_from_is_err_and, file_end, latest, mapped, most_bytes}
use Rattle.ffs_lib.proofs.Refusals.{fits_file, too_large, write_nothing}
use Rattle.ffs_lib.proofs.data.look_up_end.Goals as goal
use Rattle.ffs_lib.proofs.data.look_up_end.Goals.{then-offset-gt-MOST_BYTES-via-then-offset-gt-MOST_BYTES, then-offset-gt-MOST_BYTES-via-else-offset-gt-MOST_BYTES+then-count-offset}

pub returns-in_err-file-clause-exact : goal.returns-in_err-file-clause-exact
returns-in_err-file-clause-exact g c = λ lib.
    let p = err_from_is_err_and c.from_residual.result c.from_residual.ensures.1 in
    p.1 ∙ (ap (λ (f : FfsFault). Err f) p.2 ∙ ap (mapped file_end) (write_nothing _ c.args.fs.number c.args.number (c.args.offset + c.args.count) c.in_err-file.field-0.0 (c.in_err-file.ensures.exact lib)))

pub returns-then-offset-gt-MOST_BYTES-clause-exact : goal.returns-then-offset-gt-MOST_BYTES-clause-exact
returns-then-offset-gt-MOST_BYTES-clause-exact g c = λ lib.
    let size : ℕ = c.args.offset + c.args.count in
    let large : most_bytes < size =
    elim c.then-offset-gt-MOST_BYTES.branch [ then-offset-gt-MOST_BYTES-via-then-offset-gt-MOST_BYTES w ↦ omega arith | then-offset-gt-MOST_BYTES-via-else-offset-gt-MOST_BYTES+then-count-offset w ↦ omega arith ] in
    ap (mapped file_end) (too_large (latest (g.S.Store.state_of c.args.store.now).lives) c.args.fs.number c.args.number size c.in_ok-file.file.inode (c.in_ok-file.ensures.exact lib) large)

pub returns-clause-exact : goal.returns-clause-exact
returns-clause-exact g c = λ lib.
    let end : c.min.result ≡ file_end c.in_ok-file.file.inode = c.min.ensures ∙ ap (λ (k : ℕ). min k most_bytes) c.size.ensures in
    let one : ◌≡◌ {A = Result ℕ FfsFault} (Ok c.min.result) (Ok (file_end c.in_ok-file.file.inode)) = ap (λ (k : ℕ). Ok k) end in
    one ∙ ap (mapped file_end) (fits_file _ c.args.fs.number c.args.number (c.args.offset + c.args.count) _ (c.in_ok-file.ensures.exact lib) (omega arith))
