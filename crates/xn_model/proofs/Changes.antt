-- The changes of lives, block by block: what proofs take in place of the steps.
use Rattle.std.specs.Prelude.{ℕ, ◌+◌, Bool, cond, List, [], ◌∷◌, ◌++◌, take, drop, Option, None, ◌==◌, option_map}
use Rattle.std.specs.List.{last_or}
use Rattle.xn_model.specs.Lists.{has_number, blocks_of}
use Rattle.xn_model.specs.Lives.{durable_after, BlockState, Status, Owned, Dropped, Life, Lives}

-- each block's life after f, which is given its number
abbrev pub revise_from : ℕ → (ℕ → Option Life → Option Life) → Lives → Lives
revise_from n f [] = []
revise_from n f (o ∷ os) = f n o ∷ revise_from (n + 1) f os

abbrev pub revise : (ℕ → Option Life → Option Life) → Lives → Lives
revise f lives = revise_from 0 f lives

-- each life after f
abbrev pub each : (ℕ → Life → Life) → Lives → Lives
each f lives = revise (λ c o. option_map (f c) o) lives

-- without the lives of some blocks
abbrev pub free : List ℕ → Lives → Lives
free blocks lives = revise (λ c o. cond (has_number blocks c) None o) lives

-- a status after block b has accepted a state
abbrev pub status_after : ℕ → BlockState → ℕ → Status → Status
status_after b s c old = cond (has_number (blocks_of s.adds) c) (Owned b) (cond (has_number s.drops c) (Dropped b) old)

-- the life of block c after block b has accepted a state
abbrev pub accepted : ℕ → BlockState → ℕ → Life → Life
accepted b s c l = record {
  fs = l.fs;
  ty = l.ty;
  status = status_after b s c l.status;
  durable = l.durable;
  pending = cond (c == b) (l.pending ++ s ∷ []) l.pending;
  begun = l.begun;
}

abbrev pub accept : ℕ → BlockState → Lives → Lives
accept b s lives = each (accepted b s) lives

-- the life of block c with block b's write begun, or with none
abbrev pub with_begun : ℕ → Option ℕ → ℕ → Life → Life
with_begun b k c l = record {
  fs = l.fs;
  ty = l.ty;
  status = l.status;
  durable = l.durable;
  pending = l.pending;
  begun = cond (c == b) k l.begun;
}

-- the life of block c once the first k pending states of block b are on the disk
abbrev pub settled : ℕ → ℕ → ℕ → Life → Life
settled b k c l = record {
  fs = l.fs;
  ty = l.ty;
  status = l.status;
  durable = cond (c == b) (last_or l.durable (take k l.pending)) l.durable;
  pending = cond (c == b) (drop k l.pending) l.pending;
  begun = cond (c == b) None l.begun;
}

-- the life of block c with only the bytes known of block b's durable state
abbrev pub bare_if : Bool → Life → Life
bare_if t l = record { fs = l.fs; ty = l.ty; status = l.status; durable = cond t (durable_after l.durable) l.durable; pending = l.pending; begun = l.begun }

abbrev pub bared : ℕ → ℕ → Life → Life
bared b c l = bare_if (c == b) l
