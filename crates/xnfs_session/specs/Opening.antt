-- How a session begins: the store is flushed, and then its volume is found, or made.
--     IsFlushed old new             all that was pending is written
--     BeginsBy T old Next answer    why the store could not be flushed, that it lacks the library's types, or what comes of the flushed store
--     OpensBy T fs old answer       a volume is found, or not; the answer has the store's state
--     MakesBy T fs old answer       a volume is made, or not
use Rattle.std.specs.Prelude.{◌≡◌, ◌⊎◌, ◌<◌, ℕ, Result, Err, IfOk, IsOk}
use Rattle.xn_model.specs.Types.{Types}
use Rattle.xn_model.specs.Lives.{StoreState}
use Rattle.xn_model.specs.Rules.{IsIdle}
use Rattle.store_types.specs.declared.refusal.Refusal.{Refusal}
use Rattle.xn_kernel.specs.FlushedStates.{StateRefuses, StateWaves}
use Rattle.ffs_format.specs.Library.{HasAnother}
use Rattle.ffs_model.specs.Library.{IsLibrary}
use Rattle.ffs_lookup.specs.declared.fault.FfsFault.{FfsFault}
use Rattle.ffs_lookup.specs.declared.fault.FfsFault.TheVariants.{NoEntry, Kernel}
use Rattle.ffs_lookup.specs.Counts.{open_in}
use Rattle.ffs_lookup.specs.FileValues.{files_of}
use Rattle.ffs_lookup.specs.Newest.{mapped}
use Rattle.ffs_lib.specs.Making.{newly_made}
use Rattle.ffs_lib.specs.NewOrder.{MakesInOrder}
use Rattle.ffs_lib.specs.Stages.{Does, make_stages}
use Rattle.ffs_lib.specs.Steps.{newest_block}
use Rattle.ffs_lib.specs.Volumes.{NothingPending}

abbrev pub IsFlushed : StoreState → StoreState → Type 0
IsFlushed old new = ((waves : ℕ) × StateWaves waves old new) × IsIdle new.lives × NothingPending new.lives

-- the answer is the state in which the store is left, or the fault
abbrev pub BeginsBy : Types → StoreState → (StoreState → Result StoreState FfsFault → Type 0) → Result StoreState FfsFault → Type 0
BeginsBy T old Next answer =
    ((refusal : Refusal) × (left : StoreState) × StateRefuses old refusal left × (answer ≡ Err (Kernel refusal)))
    ⊎ ((flushed : StoreState) × IsFlushed old flushed
    × ((((place : ℕ) × (place < 3) × HasAnother T place) × (answer ≡ Err NoEntry)) ⊎ (IsLibrary T × Next flushed answer)))

abbrev pub OpensBy : Types → ℕ → StoreState → Result StoreState FfsFault → Type 0
OpensBy T fs old answer = BeginsBy T old (λ flushed answer. answer ≡ mapped (λ done. flushed) (open_in flushed fs)) answer

abbrev pub MakesBy : Types → ℕ → StoreState → Result StoreState FfsFault → Type 0
MakesBy T fs old answer = BeginsBy T old (λ flushed answer.
    let files = files_of (newest_block flushed) fs in
    (new : StoreState) × Does T fs (newly_made flushed fs files) (make_stages files) flushed new (mapped (λ state. tt) answer)
    × (IsOk (newly_made flushed fs files) → MakesInOrder T fs flushed new answer) × IfOk answer (λ state. state ≡ new)) answer
