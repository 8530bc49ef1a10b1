-- Acts that are made one after another, each where there is room for it.
--     MakesInRoom      one
--     MakesAllInRoom   all in order, or the first of them, and the next one is refused
--     DoesActs         acts that were planned, where there was memory
use Rattle.std.specs.Prelude.{◌≡◌, ◌⊎◌, ℕ, List, [], ◌∷◌, Result, Ok, Err, MatchBool, MatchResult}
use Rattle.xn_model.specs.Types.{Types}
use Rattle.xn_model.specs.Lives.{StoreState}
use Rattle.store_types.specs.declared.refusal.Refusal.{Refusal}
use Rattle.treefs_model.specs.Acts.{Act, Made}
use Rattle.treefs_model.specs.declared.fault.Fault.{Fault}
use Rattle.treefs_model.specs.declared.fault.Fault.TheVariants.{Full, Kernel}
use Rattle.treefs_edits.specs.Plans.{LacksMemory}
use Rattle.treefs_edits.specs.Rooms.{has_room}

abbrev pub answered : Result ℕ Refusal → Result (Unit {0}) Fault
answered (Ok number) = Ok tt
answered (Err reason) = Err (Kernel reason)

-- one more edit, and one more entry in its block; touched: how many inodes have times that no edit has written
unfoldable pub MakesInRoom : Types → ℕ → ℕ → Act → StoreState → StoreState → Result (Unit {0}) Fault → Type 0
MakesInRoom T fs touched act old new result =
    MatchBool (has_room old fs touched 1 ((act.block, 1) ∷ []))
    ((made : Result ℕ Refusal) × Made T fs act old new made × (result ≡ answered made))
    ((result ≡ Err Full) × (new ≡ old))

abbrev pub MakesAllInRoom : Types → ℕ → ℕ → List Act → StoreState → StoreState → Result (Unit {0}) Fault → Type 0
MakesAllInRoom T fs touched [] old new result = (result ≡ Ok tt) × (new ≡ old)
MakesAllInRoom T fs touched (act ∷ acts) old new result =
    MatchResult result (λ done. ⊥) (λ fault. MakesInRoom T fs touched act old new (Err fault))
    ⊎ ((middle : StoreState) × MakesInRoom T fs touched act old middle (Ok tt) × MakesAllInRoom T fs touched acts middle new result)

-- what was planned, or the planner's fault
abbrev pub DoesPlannedActs : Types → ℕ → ℕ → Result (List Act) Fault → StoreState → StoreState → Result (Unit {0}) Fault → Type 0
DoesPlannedActs T fs touched (Ok acts) old new result = MakesAllInRoom T fs touched acts old new result
DoesPlannedActs T fs touched (Err fault) old new result = (result ≡ Err fault) × (new ≡ old)

abbrev pub DoesActs : Types → ℕ → ℕ → Result (List Act) Fault → StoreState → StoreState → Result (Unit {0}) Fault → Type 0
DoesActs T fs touched planned old new result =
    MatchResult result (λ done. ⊥) (λ fault. LacksMemory old new fault)
    ⊎ DoesPlannedActs T fs touched planned old new result
