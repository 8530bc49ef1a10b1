use Rattle.std.proofs.Common.{◌≡◌, ◌∙◌, ◌+◌, ◌-◌, ◌%◌, ℕ, List, ap, arith, drop, inl, inr, length, sym, take, min, nat_lt, length-drop, length-take-le}
use Rattle.ffs_lib.proofs.Common.{cases_eq}
use Rattle.ffs_lib.specs.WriteOrder.{data_at}
use Rattle.ffs_lib.proofs.Laws.{is_ok_one}
use Rattle.ffs_lib.proofs.Parting.{bytes_next, data_make, last_given, padded_long, parts_by, zeros_make, zeros_next}
use Rattle.ffs_lib.proofs.WriteParts.{take_least}
use Rattle.ffs_lib.proofs.data.write_part.Goals as goal

pub returns-then-at-offset-clause-parts : goal.returns-then-at-offset-clause-parts
returns-then-at-offset-clause-parts g c = λ T array zeroth e ok p.
    let first = g.S.Store.state_of c.args.store.now in
    let second = g.S.Store.state_of c.clear_block-cleared.new.store in
    let end = c.args.end in
    let offset = c.args.offset in
    let bytes = c.args.bytes.now in
    let done = c.args.progress.done in
    let at : ℕ = c.min.result + done in
    let count = c.min-count.result in
    let least = c.min-count.ensures in
    let low = c.min.ensures in
    let long = padded_long end offset bytes done count in
    let in_all = is_ok_one _ ok in
    let wrote = p.puts.wrote in_all.0 in_all.1 in
    let x = zeros_make T c.args.fs.number array first second c.args.number end offset bytes at count c.args.progress.last c.clear_block-cleared.result (omega (arith, low)) (omega arith) least (c.clear_block-cleared.ensures.ends T array wrote.after e p.stage wrote.file p.given) in
    parts_by T c.args.fs.number array zeroth first second c.args.number end offset bytes _ c.args.progress c.step.result count p c.requires.none (omega (arith, least, long, low)) (omega (arith, c.requires.some, long, low))
    (zeros_next end offset bytes done count (omega (arith, least, low))) (λ lt. elim (cases_eq (min end offset + (done + count)) offset) [ inl z ↦ inr (inl z) | inr ne ↦ inr (inr (omega (arith, least, ne, low))) ]) (omega (arith, least, low)) at (ap (λ k. k + done) c.min.ensures)
    (λ k lo hi. (omega (arith, least, lo, hi), omega (arith, least, lo, hi))) c.clear_block-cleared.result x c.step.ensures.ok c.step.ensures.err

pub returns-clause-parts : goal.returns-clause-parts
returns-clause-parts g c = λ T array zeroth e ok p.
    let first = g.S.Store.state_of c.args.store.now in
    let second = g.S.Store.state_of c.write_block-written.new.store in
    let end = c.args.end in
    let offset = c.args.offset in
    let bytes = c.args.bytes.now in
    let progress = c.args.progress in
    let done = progress.done in
    let at : ℕ = c.min.result + done in
    let count = c.min-count-2.result in
    let least = c.min-count-2.ensures in
    let some = c.requires.some in
    let low = c.min.ensures in
    let long = padded_long end offset bytes done count in
    let from : ℕ = at - offset in
    let in_all = is_ok_one _ ok in
    let wrote = p.puts.wrote in_all.0 in_all.1 in
    let same : from + count - from ≡ count = omega arith in
    let part : List ℕ = take (from + count - from) (drop from bytes) in
    let rest = length-drop from bytes in
    let least_of : count ≡ min (length (drop from bytes)) (512 - at % 512) = least ∙ ap (λ k. min k (512 - at % 512)) (sym rest) in
    let ends : part ≡ data_at offset bytes at = ap (λ (k : ℕ). take k (drop from bytes)) same ∙ take_least (drop from bytes) count (512 - at % 512) least_of in
    let size : length part ≡ count = ap (λ (k : ℕ). length (take k (drop from bytes))) same ∙ length-take-le count (drop from bytes) (omega (arith, rest, least)) in
    let x = data_make T c.args.fs.number array first second c.args.number end offset bytes at part progress.last c.last_if-last.result (nat_lt end (at + count)) c.write_block-written.result c.kept_if.result (omega arith) ends (λ first grow. omega (arith, size, least, low, first, grow))
    (ap (λ k. nat_lt end (at + k)) size) c.last_if-last.ensures c.kept_if.ensures p.given
    (c.write_block-written.ensures.ends T array wrote.after e p.stage wrote.file (last_given first progress.last (nat_lt end (at + count)) c.last_if-last.result c.last_if-last.ensures p.given)) in
    parts_by T c.args.fs.number array zeroth first second c.args.number end offset bytes _ progress c.step-2.result count p c.requires.none (omega (arith, least, some, long, low)) (omega (arith, some, long, low))
    (ap (λ (k : ℕ). take k (drop from bytes)) same ∙ bytes_next end offset bytes done count from (omega (arith, low))) (λ lt. inr (inr (omega (arith, least, lt, some, long, low)))) (omega (arith, least, some, low)) at (ap (λ k. k + done) c.min.ensures)
    (λ k lo hi. (omega (arith, least, lo, hi), omega (arith, least, lo, hi))) c.kept_if.result x c.step-2.ensures.ok c.step-2.ensures.err
