use Rattle.std.proofs.Common.{◌≡◌, ◌+◌, ◌++◌, ◌∙◌, ℕ, ap, append_assoc, arith, refl, subst, sym, append-nil}
use Rattle.std.specs.List.{range_with_len}
use Rattle.ffs_lookup.specs.Counts.{AreCounts, named, numbers_at}
use Rattle.ffs_lookup.proofs.Counting.{numbers_more}
use Rattle.ffs_lookup.proofs.counts.NameCounts.add_block.Goals as goal

pub loop-place-init : goal.loop-place-init
loop-place-init c = λ numbers a. subst (λ xs. AreCounts xs c.args.self.now) (sym (append-nil numbers)) a

pub loop-place-preserved : goal.loop-place-preserved
loop-place-preserved c = λ numbers a.
    let before = numbers_at c.args.block.now (range_with_len 0 c.loop-place.place) in
    let same : (numbers ++ before) ++ named c.entry_inode.result ≡ numbers ++ numbers_at c.args.block.now (range_with_len 0 (c.loop-place.place + 1)) =
    append_assoc numbers before (named c.entry_inode.result) ∙ (ap (λ n. numbers ++ (before ++ named n)) c.entry_inode.ensures ∙ ap (λ xs. numbers ++ xs) (sym (numbers_more c.args.block.now c.loop-place.place (c.loop-place.place + 1) refl))) in
    subst (λ xs. AreCounts xs c.add.new.self) same (c.add.ensures (numbers ++ before) (c.loop-place.invariant numbers a))

pub returns : goal.returns
returns c = λ numbers a.
    let all : c.loop-place.place ≡ 16 = omega arith in
    subst (λ (n : ℕ). AreCounts (numbers ++ numbers_at c.args.block.now (range_with_len 0 n)) c.loop-place.self) all (c.loop-place.invariant numbers a)
