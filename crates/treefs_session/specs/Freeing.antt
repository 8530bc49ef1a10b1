-- What no name leads to is freed, and all is written.
--     unheld            those of some inodes that aren't held
--     Syncs             inodes without links are freed, but for held ones, and then all is written
--     MakesFreely       a call is made until it has room; and once more behind that, where it found no space
--     GivesUp           an inode to which nothing points is given up
use Rattle.std.specs.Prelude.{◌≡◌, ◌⊎◌, ℕ, Bool, true, false, not, List, filter, Result, Ok, Err, MatchResult}
use Rattle.xn_model.specs.Lists.{has_number}
use Rattle.xn_model.specs.Lives.{StoreState}
use Rattle.xn_model.specs.Types.{Types}
use Rattle.store_types.specs.declared.refusal.Refusal.TheVariants.{NoMemory}
use Rattle.treefs_model.specs.declared.fault.Fault.{Fault}
use Rattle.treefs_model.specs.declared.fault.Fault.TheVariants.{Kernel, NoInode, NoSpace}
use Rattle.treefs.specs.Reaping.{ReapDoes}
use Rattle.treefs.specs.Trimming.{GiveUpDoes}
use Rattle.treefs.specs.declared.volume.Volume.{Volume}
use Rattle.treefs_mounts.specs.Flushing.{FlushesVolume}
use Rattle.treefs_session.specs.Tries.{Tries, most_tries}

-- All is written

abbrev pub unheld : List ℕ → List ℕ → List ℕ
unheld held orphans = filter (λ n. not (has_number held n)) orphans

abbrev pub Reaps : Types → List ℕ → StoreState → StoreState → Volume → Volume → Result (Unit {0}) Fault → Type 0
Reaps T numbers = Tries (λ old new volume volume' result. ReapDoes T old new volume volume' numbers result) T most_tries

abbrev pub Writes : Types → StoreState → StoreState → Volume → Volume → Result (Unit {0}) Fault → Type 0
Writes T = Tries (FlushesVolume T) T most_tries

abbrev pub ReapsAndWrites : Types → List ℕ → StoreState → StoreState → Volume → Volume → Result (Unit {0}) Fault → Type 0
ReapsAndWrites T numbers old new volume volume' result =
    MatchResult result (λ done. ⊥) (λ fault. Reaps T numbers old new volume volume' (Err fault))
    ⊎ ((middle : StoreState) × (between : Volume) × Reaps T numbers old middle volume between (Ok tt) × Writes T middle new between volume' result)

-- there may be no memory for the list of inodes
abbrev pub Syncs : Types → List ℕ → StoreState → StoreState → Volume → Volume → Result (Unit {0}) Fault → Type 0
Syncs T held old new volume volume' result =
    ((result ≡ Err (Kernel NoMemory)) × (new ≡ old) × (volume' ≡ volume))
    ⊎ ReapsAndWrites T (unheld held volume.memory.orphans) old new volume volume' result

-- A call finds no space

abbrev pub lacks_space : Fault → Bool
lacks_space NoSpace = true
lacks_space NoInode = true
lacks_space _ = false

abbrev pub lacked_space : {A : Type 0} → Result A Fault → Bool
lacked_space (Ok answer) = false
lacked_space (Err fault) = lacks_space fault

-- Does: what the call does
abbrev pub FreesAndTries : {A : Type 0} → (StoreState → StoreState → Volume → Volume → Result A Fault → Type 0) → Types → List ℕ → StoreState → StoreState
    → Volume → Volume → Result A Fault → Type 0
FreesAndTries Does T held old new volume volume' result =
    MatchResult result (λ answer. ⊥) (λ fault. Syncs T held old new volume volume' (Err fault))
    ⊎ ((middle : StoreState) × (between : Volume) × Syncs T held old middle volume between (Ok tt)
    × Tries Does T most_tries middle new between volume' result)

abbrev pub MakesFreely : {A : Type 0} → (StoreState → StoreState → Volume → Volume → Result A Fault → Type 0) → Types → List ℕ → StoreState → StoreState
    → Volume → Volume → Result A Fault → Type 0
MakesFreely Does T held old new volume volume' result =
    (Tries Does T most_tries old new volume volume' result × (lacked_space result ≡ false))
    ⊎ ((fault : Fault) × (middle : StoreState) × (between : Volume) × Tries Does T most_tries old middle volume between (Err fault)
    × (lacks_space fault ≡ true) × FreesAndTries Does T held middle new between volume' result)

-- An inode to which nothing points

abbrev pub GivesUpOnce : Types → ℕ → StoreState → StoreState → Volume → Volume → Result Bool Fault → Type 0
GivesUpOnce T block = Tries (λ old new volume volume' result. GiveUpDoes T old new volume block result × (volume' ≡ volume)) T most_tries

abbrev pub GivesUpAgain : Types → ℕ → StoreState → StoreState → Volume → Volume → Result Bool Fault → Type 0
GivesUpAgain T block old new volume volume' result =
    MatchResult result (λ is_free. ⊥) (λ fault. Writes T old new volume volume' (Err fault))
    ⊎ ((middle : StoreState) × (between : Volume) × Writes T old middle volume between (Ok tt) × GivesUpOnce T block middle new between volume' result)

-- once more, once all is written, where its block isn't free
abbrev pub GivesUp : Types → ℕ → StoreState → StoreState → Volume → Volume → Result Bool Fault → Type 0
GivesUp T block old new volume volume' result =
    MatchResult result (λ is_free. (is_free ≡ true) × GivesUpOnce T block old new volume volume' (Ok true))
    (λ fault. GivesUpOnce T block old new volume volume' (Err fault))
    ⊎ ((middle : StoreState) × (between : Volume) × GivesUpOnce T block old middle volume between (Ok false)
    × GivesUpAgain T block middle new between volume' result)
