-- What a file system may read.
--     readable state fs    the bytes of each block; none of one whose read is refused
use Rattle.std.specs.Prelude.{ℕ, List, [], Result, Ok, Err}
use Rattle.store_types.specs.declared.refusal.Refusal.{Refusal}
use Rattle.xn_model.specs.Lives.{StoreState}
use Rattle.xn_model.specs.Calls.{read_of}

abbrev pub answered : Result (List ℕ) Refusal → List ℕ
answered (Ok bytes) = bytes
answered (Err refusal) = []

unfoldable pub readable : StoreState → ℕ → ℕ → List ℕ
readable state fs block = answered (read_of state fs block)
