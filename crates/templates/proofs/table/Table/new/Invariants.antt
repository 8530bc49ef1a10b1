use Rattle.std.proofs.Common.{◌≡◌, replicate, None, vec_capacity}
use Rattle.templates.proofs.table.Table.new.Given as goal

abbrev pub invariant-loop-place : goal.invariant-loop-place
invariant-loop-place l = record { room : vec_capacity l.places ≡ 16; empty : l.places.items ≡ replicate l._place None }
