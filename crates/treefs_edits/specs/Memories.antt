-- What a session keeps in memory of a volume.
--     Memory            as a value
--     touched_times     the times of an inode; newest_times, those of one that changes itself now
--     with_touched      an inode is touched
--     without_touched   its times are written
--     is_past           an edit, and all before it, are durable
use Rattle.std.specs.Prelude.{ℕ, ℤ, ◌==◌, nat_lt, Bool, List, [], ◌∷◌, ◌++◌, find, position, remove, slice_set, Option, None, Some}
use Rattle.xn_model.specs.Lives.{StoreState}
use Rattle.xn_model.specs.Calls.{floor_of}
pub use Rattle.treefs_edits.specs.declared.times.Times.{Times}
pub use Rattle.treefs_edits.specs.declared.memory.Touched.{Touched}

pub record Memory : Type 0 where
  pub clock : ℤ
  -- times that no edit has written yet, each inode once
  pub touched : List Touched
  -- the numbers of the last edits by which a directory was made or moved, and an inode got one more name
  pub last_dir : ℕ
  pub last_link : ℕ
  pub hint : ℕ
  pub orphans : List ℕ

abbrev pub times_in : Option Touched → Times → Times
times_in None times = times
times_in (Some touch) times = touch.times

-- as it was touched, or else as its block says
abbrev pub touched_times : List Touched → ℕ → Times → Times
touched_times touched number times = times_in (find (λ touch. touch.number == number) touched) times

abbrev pub newest_times : Memory → ℕ → Times → Times
newest_times memory number times = record { mtime = (touched_times memory.touched number times).mtime; ctime = memory.clock }

abbrev pub put_at : List Touched → Option ℕ → Touched → List Touched
put_at touched None touch = touched ++ touch ∷ []
put_at touched (Some place) touch = slice_set touched place touch

abbrev pub with_touched : List Touched → ℕ → Times → List Touched
with_touched touched number times = put_at touched (position (λ touch. touch.number == number) touched) (record { number = number; times = times })

abbrev pub taken_out : List Touched → Option ℕ → List Touched
taken_out touched None = touched
taken_out touched (Some place) = remove touched place

-- each inode is there once
abbrev pub without_touched : List Touched → ℕ → List Touched
without_touched touched number = taken_out touched (position (λ touch. touch.number == number) touched)

-- of the word of memory last_dir or last_link: what it tells of, and all before it, is durable
abbrev pub is_past : StoreState → ℕ → ℕ → Bool
is_past state fs word = nat_lt word (floor_of state fs)
