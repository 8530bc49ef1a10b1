-- What a read tells of the bytes that a file system may read.
use Rattle.std.proofs.Common.{◌≡◌, ℕ, List, [], Result, Ok, Err, sym, Bor}
use Rattle.store_types.specs.declared.refusal.Refusal.{Refusal}
use Rattle.xn_model.specs.Lives.{StoreState}
use Rattle.xn_model.specs.Results.{Lends}
use Rattle.xn_model.specs.Calls.{read_of}
use Rattle.treefs_lookup.specs.Readable.{answered, readable}

answered_bytes : (r : Result (List ℕ) Refusal) (lent : Bor (List ℕ)) → Lends r (Ok lent) → answered r ≡ lent.now
answered_bytes (Ok bytes) lent h = sym h
answered_bytes (Err refusal) lent h = absurd h

answered_none : (r : Result (List ℕ) Refusal) (refusal : Refusal) → Lends r (Err refusal) → answered r ≡ []
answered_none (Ok bytes) refusal h = absurd h
answered_none (Err first) refusal h = λ i. []

pub bytes_read : (state : StoreState) (fs block : ℕ) (lent : Bor (List ℕ)) → Lends (read_of state fs block) (Ok lent) → readable state fs block ≡ lent.now
unfolding readable
bytes_read state fs block lent h = answered_bytes (read_of state fs block) lent h

pub none_read : (state : StoreState) (fs block : ℕ) (refusal : Refusal) → Lends (read_of state fs block) (Err refusal) → readable state fs block ≡ []
unfolding readable
none_read state fs block refusal h = answered_none (read_of state fs block) refusal h
