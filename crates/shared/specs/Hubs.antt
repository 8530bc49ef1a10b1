-- A kernel with the words of its floors, as contracts see it, and what is known of it under a lock.
--     NoWordAbove words state           no word is above its file system's floor
--     IsHub bytes_of crash_leaves hub   what is known of every hub that is found under a lock
--     AllRaised hub                     each word is its file system's floor
--     MayAnswer .. fs call a            what a call may answer that is made under a lock
--     MayMeet .. fs floor               which floor a reader may be told that meets under a lock
use Rattle.std.specs.Prelude.{◌≡◌, ℕ, ◌<◌, ◌≤◌, List, slice_index}
use Rattle.xn_model.specs.Lives.{StoreState}
use Rattle.xn_model.specs.Calls.{floor_of}
use Rattle.xn_state.specs.declared.call.Call.{Call}
use Rattle.xn_state.specs.declared.answer.Answer.{Answer}
use Rattle.xn_state.specs.Answers.{StateAnswers}
use Rattle.xn_state.specs.States.{own_types}
use Rattle.xn_kernel.specs.Kernels.{KernelValue, IsKernel}

-- a kernel, and what its publisher knows of the words
pub record HubValue (L : Type 0) : Type 0 where
  pub kernel : KernelValue L
  pub words : List ℕ

-- the hub with this store
abbrev pub with_store : {L : Type 0} → HubValue L → StoreState → HubValue L
with_store hub store = record hub { kernel = record hub.kernel { state = store } }

abbrev pub NoWordAbove : List ℕ → StoreState → Type 0
NoWordAbove words state = (fs : ℕ) → slice_index words fs ≤ floor_of state fs

pub record IsHub {L : Type 0} (bytes_of : L → List ℕ) (crash_leaves : L → List ℕ → Type 0) (hub : HubValue L) : Type 0 where
  -- the rules over all lives; a lane at home holds its block's durable bytes, also after a crash, and a lane is away exactly while a
  -- write is under way
  pub kept : IsKernel bytes_of crash_leaves hub.kernel.lanes hub.kernel.state
  pub below : NoWordAbove hub.words hub.kernel.state

abbrev pub AllRaised : {L : Type 0} → HubValue L → Type 0
AllRaised hub = (fs : ℕ) → fs < 32 → slice_index hub.words fs ≡ floor_of hub.kernel.state fs

-- On some hub that was found under the lock, this call may answer so, and it left the other.
pub record MayAnswer {L : Type 0} (bytes_of : L → List ℕ) (crash_leaves : L → List ℕ → Type 0) (fs : ℕ) (call : Call) (answer : Answer) : Type 0 where
  pub found : HubValue L
  pub left : HubValue L
  pub sound : IsHub bytes_of crash_leaves found
  pub answers : StateAnswers (own_types found.kernel.state) found.kernel.state fs call left.kernel.state answer
  pub rest : left ≡ with_store found left.kernel.state

-- On some hub that was found under the lock this is the file system's floor.
pub record MayMeet {L : Type 0} (bytes_of : L → List ℕ) (crash_leaves : L → List ℕ → Type 0) (fs : ℕ) (floor : ℕ) : Type 0 where
  pub found : HubValue L
  pub sound : IsHub bytes_of crash_leaves found
  pub is_floor : floor ≡ floor_of found.kernel.state fs
