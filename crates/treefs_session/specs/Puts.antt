-- A whole file or symbolic link is put: it is begun, all its bytes are written, and then it gets its name.
--     Begins, Names       the first and the last part
--     WritesAndNames      the last two
--     PutDoes             all; where the name couldn't be given, the inode is given up
use Rattle.std.specs.Prelude.{◌≡◌, ◌⊎◌, ℕ, Bool, List, drop, take, Result, Ok, Err, MatchResult}
use Rattle.xn_model.specs.Lives.{StoreState}
use Rattle.xn_model.specs.Types.{Types}
use Rattle.treefs_model.specs.declared.fault.Fault.{Fault}
use Rattle.treefs.specs.Committing.{CommitDoes}
use Rattle.treefs.specs.Creating.{BeginDoes}
use Rattle.treefs.specs.declared.volume.Volume.{Volume}
use Rattle.treefs_session.specs.Freeing.{GivesUp, MakesFreely}
use Rattle.treefs_session.specs.Pieces.{WritesAll}
use Rattle.treefs_session.specs.declared.calls.bytes.Target.TheVariants.{Begun}
use Rattle.treefs_session.specs.declared.put.Put.{Put}

-- with the first 384 bytes
abbrev pub Begins : Types → List ℕ → Put → StoreState → StoreState → Volume → Volume → Result ℕ Fault → Type 0
Begins T held put = MakesFreely
    (λ old new volume volume' result. BeginDoes T old new volume put.kind put.attributes (take 384 put.bytes.now) result × (volume' ≡ volume)) T held

abbrev pub Names : Types → List ℕ → Put → ℕ → StoreState → StoreState → Volume → Volume → Result ℕ Fault → Type 0
Names T held put block = MakesFreely
    (λ old new volume volume' result. CommitDoes T old new volume volume' block put.directory put.name.now put.replace result) T held

abbrev pub WritesAndNames : Types → List ℕ → Put → ℕ → StoreState → StoreState → Volume → Volume → Result ℕ Fault → Type 0
WritesAndNames T held put block old new volume volume' result =
    MatchResult result (λ number. ⊥) (λ fault. WritesAll T held (Begun block 384) (drop 384 put.bytes.now) old new volume volume' (Err fault))
    ⊎ ((middle : StoreState) × (between : Volume) × WritesAll T held (Begun block 384) (drop 384 put.bytes.now) old middle volume between (Ok tt)
    × Names T held put block middle new between volume' result)

-- the inode is given up where that failed; given: what that answers, which isn't told
abbrev pub Finishes : Types → List ℕ → Put → ℕ → StoreState → StoreState → Volume → Volume → Result ℕ Fault → Type 0
Finishes T held put block old new volume volume' result =
    MatchResult result (λ number. WritesAndNames T held put block old new volume volume' (Ok number))
    (λ fault. (middle : StoreState) × (between : Volume) × (given : Result Bool Fault) × WritesAndNames T held put block old middle volume between (Err fault)
    × GivesUp T block middle new between volume' given)

abbrev pub PutDoes : Types → List ℕ → Put → StoreState → StoreState → Volume → Volume → Result ℕ Fault → Type 0
PutDoes T held put old new volume volume' result =
    MatchResult result (λ number. ⊥) (λ fault. Begins T held put old new volume volume' (Err fault))
    ⊎ ((block : ℕ) × (middle : StoreState) × (between : Volume) × Begins T held put old middle volume between (Ok block)
    × Finishes T held put block middle new between volume' result)
