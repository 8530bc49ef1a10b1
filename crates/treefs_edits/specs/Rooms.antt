-- Whether there is room for the edits of a call: the limits of the store, 4,096 pending entries of a file system and 64 of a block, are never met.
use Rattle.std.specs.Prelude.{ℕ, ◌+◌, nat_le, Bool, ◌&&◌, List}
use Rattle.std.specs.List.{list_all}
use Rattle.xn_model.specs.Lives.{StoreState}
use Rattle.xn_model.specs.Calls.{pending_of}
use Rattle.xn_model.specs.PendingIn.{pending_in_of}

-- a block, and how many more entries are to be pending in it
abbrev pub has_room_in : StoreState → ℕ × ℕ → Bool
has_room_in state part = nat_le (pending_in_of state part.0 + part.1) 62

-- touched: how many inodes have times that no edit has written; edits: how many edits the call makes at most
abbrev pub has_room : StoreState → ℕ → ℕ → ℕ → List (ℕ × ℕ) → Bool
has_room state fs touched edits parts = nat_le (pending_of state fs + touched + edits + 2) 4096 && list_all (has_room_in state) parts
