-- What open does: a volume that was closed is marked as open, and any other one is mended.
--     RoundDoes        a pass is made, and what it left pending is written; where it was full it is to be made again
--     Repeats          a pass is made until it is done
--     MendsVolume      inode 1 is a directory, and then both passes are made, the names first
--     Prepares         the volume is marked as open, or mended
--     OpenDoes         what open does
use Rattle.std.specs.Prelude.{◌≡◌, ◌⊎◌, ℕ, zero, suc, ℤ, Bool, true, false, Result, Ok, Err, MatchBool, MatchResult}
use Rattle.edit_list.specs.declared.fs.Fs.{Fs}
use Rattle.xn_model.specs.Lives.{StoreState}
use Rattle.xn_model.specs.Types.{Types}
use Rattle.treefs_format.specs.Inodes.{content_of}
use Rattle.treefs_format.specs.Roots.{is_clean}
use Rattle.treefs_model.specs.declared.fault.Fault.{Fault}
use Rattle.treefs_model.specs.declared.fault.Fault.TheVariants.{Full}
use Rattle.treefs_lookup.specs.Inodes.{directory_found}
use Rattle.treefs_lookup.specs.Readable.{readable}
use Rattle.treefs.specs.Opening.{opened}
use Rattle.treefs.specs.declared.block_types.BlockTypes.{BlockTypes}
use Rattle.treefs.specs.declared.volume.Volume.{Volume}
use Rattle.treefs_mounts.specs.Flushing.{FlushesPending, Marks}
use Rattle.treefs_mounts.specs.Passes.{PassDoes}
use Rattle.treefs_mounts.specs.declared.passes.Pass.{Pass}
use Rattle.treefs_mounts.specs.declared.passes.Pass.TheVariants as pass

-- whether a pass is done; where it was full it is not
abbrev pub done_or_full : Result (Unit {0}) Fault → Result Bool Fault
done_or_full (Ok done) = Ok true
done_or_full (Err Full) = Ok false
done_or_full (Err fault) = Err fault

abbrev pub RoundEnds : ℕ → Result Bool Fault → StoreState → StoreState → Result Bool Fault → Type 0
RoundEnds fs (Ok is_done) old new result =
    MatchResult result (λ answer. (answer ≡ is_done) × FlushesPending fs old new (Ok tt)) (λ fault. FlushesPending fs old new (Err fault))
RoundEnds fs (Err fault) old new result = (result ≡ Err fault) × (new ≡ old)

abbrev pub RoundDoes : Pass → Types → StoreState → StoreState → Volume → Volume → Result Bool Fault → Type 0
RoundDoes of T old new volume volume' result = (made : Result (Unit {0}) Fault) × (middle : StoreState) × PassDoes of T old middle volume volume' made
    × RoundEnds volume.tree.fs.number (done_or_full made) middle new result

-- left: how often it is made at most
abbrev pub Repeats : Pass → Types → ℕ → StoreState → StoreState → Volume → Volume → Result (Unit {0}) Fault → Type 0
Repeats of T zero old new volume volume' result = (result ≡ Err Full) × (new ≡ old) × (volume' ≡ volume)
Repeats of T (suc left) old new volume volume' result =
    MatchResult result (λ done. RoundDoes of T old new volume volume' (Ok true)) (λ fault. RoundDoes of T old new volume volume' (Err fault))
    ⊎ ((middle : StoreState) × (between : Volume) × RoundDoes of T old middle volume between (Ok false) × Repeats of T left middle new between volume' result)

-- twice for each block of the largest disk: a pass that begins where nothing is pending, and is full, has made 54 edits in some block, or 4,000 in all
unfoldable pub most_rounds : ℕ
most_rounds = 2097152

abbrev pub MakesPasses : Types → StoreState → StoreState → Volume → Volume → Result (Unit {0}) Fault → Type 0
MakesPasses T old new volume volume' result =
    MatchResult result (λ done. ⊥) (λ fault. Repeats pass.Names T most_rounds old new volume volume' (Err fault))
    ⊎ ((middle : StoreState) × (between : Volume) × Repeats pass.Names T most_rounds old middle volume between (Ok tt)
    × Repeats pass.Inodes T most_rounds middle new between volume' result)

-- inode 1 is a directory: else all names would be one too many
abbrev pub MendsVolume : Types → StoreState → StoreState → Volume → Volume → Result (Unit {0}) Fault → Type 0
MendsVolume T old new volume volume' result = MatchResult (directory_found (readable old volume.tree.fs.number) volume.tree.top 1)
    (λ found. MakesPasses T old new volume volume' result) (λ fault. (result ≡ Err fault) × (new ≡ old) × (volume' ≡ volume))

abbrev pub Prepares : Types → StoreState → StoreState → Volume → Volume → Result (Unit {0}) Fault → Type 0
Prepares T old new volume volume' result = MatchBool (is_clean (content_of (readable old volume.tree.fs.number volume.tree.top)))
    (Marks T old new volume false result × (volume' ≡ volume)) (MendsVolume T old new volume volume' result)

abbrev pub OpenDoes : Types → StoreState → StoreState → Fs → BlockTypes → ℤ → Result Volume Fault → Type 0
OpenDoes T old new fs types time result = MatchResult (opened old fs types time)
    (λ found. MatchResult result (λ volume. Prepares T old new found volume (Ok tt)) (λ fault. (left : Volume) × Prepares T old new found left (Err fault)))
    (λ fault. (result ≡ Err fault) × (new ≡ old))
