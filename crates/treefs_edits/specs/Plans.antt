-- What a call does to the store: it begins blocks, all or none, and then makes acts, which may name these blocks.
--     Plan             the blocks that a call begins, and its acts as a function of their numbers
--     Begins           blocks are begun one after another; where one is refused, those begun before it are forgotten
--     Keeps            acts are made one after another; where one is refused, the begun blocks that nothing names are forgotten
--     Does             a plan is carried out
--     DoesPlanned      what was planned is carried out, or the planner's fault is answered
use Rattle.std.specs.Prelude.{◌≡◌, ◌⊎◌, ℕ, List, [], ◌∷◌, ◌++◌, Result, Ok, Err, MatchResult}
use Rattle.xn_model.specs.Types.{Types}
use Rattle.xn_model.specs.Lives.{StoreState}
use Rattle.xn_model.specs.Calls.{forget_of, init_of}
use Rattle.xn_model.specs.Results.{Gives}
use Rattle.store_types.specs.declared.refusal.Refusal.{Refusal}
use Rattle.store_types.specs.declared.refusal.Refusal.TheVariants as refusal
use Rattle.treefs_model.specs.declared.fault.Fault.{Fault}
use Rattle.treefs_model.specs.declared.fault.Fault.TheVariants.{Kernel, NoSpace}
use Rattle.treefs_model.specs.Acts.{Act, Ran}
pub use Rattle.treefs_edits.specs.declared.start.Start.{Start}

pub record Plan : Type 0 where
  pub starts : List Start
  -- of the numbers of the blocks that were begun, in the order of starts
  pub acts : List ℕ → List Act

-- there was no memory, and nothing was done
abbrev pub LacksMemory : StoreState → StoreState → Fault → Type 0
LacksMemory old new fault = (fault ≡ Kernel refusal.NoMemory) × (new ≡ old)

-- Forgetting

-- the state that a call leaves
abbrev pub left_by : {A : Type 0} → Result (A × StoreState) Refusal → StoreState → StoreState
left_by (Ok (answer, after)) old = after
left_by (Err reason) old = old

-- without those of the blocks that nothing names; the others stay as they are
abbrev pub forgotten : Types → ℕ → List ℕ → StoreState → StoreState
forgotten T fs [] state = state
forgotten T fs (block ∷ blocks) state = forgotten T fs blocks (left_by (forget_of T state fs block) state)

-- Beginning

-- why a block is not begun: no block is free, or the kernel refuses
abbrev pub start_fault : Refusal → Fault
start_fault refusal.NoSpace = NoSpace
start_fault reason = Kernel reason

abbrev pub Begun : Types → ℕ → Start → StoreState → StoreState → Result (ℕ × ℕ) Refusal → Type 0
Begun T fs start old new result = Gives (init_of T old fs start.ty start.bytes) old new result

-- begun: the blocks that were begun before
abbrev pub Begins : Types → ℕ → List Start → List ℕ → StoreState → StoreState → Result (List ℕ) Fault → Type 0
Begins T fs [] begun old new result = (result ≡ Ok begun) × (new ≡ old)
Begins T fs (start ∷ starts) begun old new result =
    MatchResult result (λ blocks. ⊥)
    (λ fault. (reason : Refusal) × Begun T fs start old old (Err reason) × (fault ≡ start_fault reason) × (new ≡ forgotten T fs begun old))
    ⊎ ((made : ℕ × ℕ) × (middle : StoreState) × Begun T fs start old middle (Ok made) × Begins T fs starts (begun ++ made.0 ∷ []) middle new result)

-- Carrying out

abbrev pub Keeps : Types → ℕ → List ℕ → List Act → StoreState → StoreState → Result (Unit {0}) Fault → Type 0
Keeps T fs begun acts old new (Ok done) = Ran T fs acts old new (Ok done)
Keeps T fs begun acts old new (Err fault) =
    (left : StoreState) × (reason : Refusal) × (fault ≡ Kernel reason) × (Ran T fs acts old left (Err reason) ⊎ ((reason ≡ refusal.NoMemory) × (left ≡ old)))
    × (new ≡ forgotten T fs begun left)

abbrev pub Does : Types → ℕ → Plan → StoreState → StoreState → Result (Unit {0}) Fault → Type 0
Does T fs plan old new result =
    MatchResult result (λ done. ⊥) (λ fault. LacksMemory old new fault ⊎ Begins T fs plan.starts [] old new (Err fault))
    ⊎ ((begun : List ℕ) × (middle : StoreState) × Begins T fs plan.starts [] old middle (Ok begun) × Keeps T fs begun (plan.acts begun) middle new result)

abbrev pub DoesPlanned : Types → ℕ → Result Plan Fault → StoreState → StoreState → Result (Unit {0}) Fault → Type 0
DoesPlanned T fs (Err fault) old new result = MatchResult result (λ done. ⊥) (λ answered. LacksMemory old new answered ⊎ ((answered ≡ fault) × (new ≡ old)))
DoesPlanned T fs (Ok plan) old new result = Does T fs plan old new result
