-- What the two passes mend of a volume that was not closed.
--     MendsOne         an inode gets the links and the parent that its names say, and is trimmed
--     MendsFrom        that of each inode from a number on
--     MendsTable       before that, buckets are rewritten without their dead records
--     FreesUnnamed     the inodes that no name leads to are freed
--     MendsInodes      the pass over the inodes, by the names that there are
--     PassDoes         what a pass does
use Rattle.std.specs.Prelude.{◌≡◌, ◌⊎◌, ℕ, ◌+◌, List, length, Result, Ok, Err, MatchResult}
use Rattle.xn_model.specs.Lives.{StoreState}
use Rattle.xn_model.specs.Types.{Types}
use Rattle.store_types.specs.declared.refusal.Refusal.TheVariants.{NoMemory}
use Rattle.treefs_format.specs.Paths.{leaf_count}
use Rattle.treefs_model.specs.declared.fault.Fault.{Fault}
use Rattle.treefs_model.specs.declared.fault.Fault.TheVariants.{Kernel}
use Rattle.treefs_lookup.specs.Readable.{readable}
use Rattle.treefs_mending.specs.Ends.{MendsNames}
use Rattle.treefs_mending.specs.InRoom.{DoesActs}
use Rattle.treefs_mending.specs.Inodes.{inode_acts, inode_plan}
use Rattle.treefs_mending.specs.Orphans.{orphans_of}
use Rattle.treefs_mending.specs.Rewritings.{rewritings_planned}
use Rattle.treefs_mending.specs.Surveys.{Survey, survey_of}
use Rattle.treefs_mending.specs.Table.{AreFree, IsNextInode}
use Rattle.treefs_mending.specs.declared.tally.Tally.{Tally}
use Rattle.treefs_mending.specs.declared.survey.Directory.{Directory}
use Rattle.treefs_mending.specs.declared.table.Numbered.{Numbered}
use Rattle.treefs.specs.Reaping.{ReapDoes}
use Rattle.treefs.specs.Trimming.{Then, TrimCallDoes}
use Rattle.treefs.specs.declared.volume.Volume.{Volume}
use Rattle.treefs_mounts.specs.declared.passes.Pass.{Pass}
use Rattle.treefs_mounts.specs.declared.passes.Pass.TheVariants as pass

-- The inodes

abbrev pub MendsFound : Types → Volume → List Tally → Numbered → StoreState → StoreState → Result (Unit {0}) Fault → Type 0
MendsFound T volume tallies numbered old new result =
    DoesActs T volume.tree.fs.number (length volume.memory.touched) (Ok (inode_acts (inode_plan tallies numbered.number numbered.inode))) old new result

abbrev pub Trims : Types → Volume → ℕ → StoreState → StoreState → Result (Unit {0}) Fault → Type 0
Trims T volume number old new result = TrimCallDoes T old new volume number result

abbrev pub MendsOne : Types → Volume → List Tally → Numbered → StoreState → StoreState → Result (Unit {0}) Fault → Type 0
MendsOne T volume tallies numbered = Then (MendsFound T volume tallies numbered) (Trims T volume numbered.number)

-- numbers rising; the next inode is looked for once the one before it is mended
pub data MendsFrom (T : Types) (volume : Volume) (tallies : List Tally) : ℕ → StoreState → StoreState → Result (Unit {0}) Fault → Type 0 where
  ends : {from : ℕ} {old : StoreState} → AreFree (readable old volume.tree.fs.number) volume.tree.top from (leaf_count + 1) →
      MendsFrom T volume tallies from old old (Ok tt)
  stops : {from : ℕ} {old new : StoreState} {fault : Fault} (numbered : Numbered) →
      IsNextInode (readable old volume.tree.fs.number) volume.tree.top from numbered → MendsOne T volume tallies numbered old new (Err fault) →
      MendsFrom T volume tallies from old new (Err fault)
  goes : {from : ℕ} {old new : StoreState} {result : Result (Unit {0}) Fault} (numbered : Numbered) (middle : StoreState) →
      IsNextInode (readable old volume.tree.fs.number) volume.tree.top from numbered → MendsOne T volume tallies numbered old middle (Ok tt) →
      MendsFrom T volume tallies (numbered.number + 1) middle new result → MendsFrom T volume tallies from old new result

abbrev pub Rewrites : Types → Volume → List Directory → StoreState → StoreState → Result (Unit {0}) Fault → Type 0
Rewrites T volume directories old new result =
    DoesActs T volume.tree.fs.number (length volume.memory.touched) (rewritings_planned old volume.tree.fs.number directories) old new result

abbrev pub MendsTable : Types → Volume → List Directory → List Tally → StoreState → StoreState → Result (Unit {0}) Fault → Type 0
MendsTable T volume directories tallies = Then (Rewrites T volume directories) (MendsFrom T volume tallies 1)

-- Those that no name leads to

abbrev pub LacksMemory : StoreState → StoreState → Volume → Volume → Result (Unit {0}) Fault → Type 0
LacksMemory old new volume volume' result = (result ≡ Err (Kernel NoMemory)) × (new ≡ old) × (volume' ≡ volume)

abbrev pub FreesUnnamed : Types → StoreState → StoreState → Volume → Volume → List Tally → Result (Unit {0}) Fault → Type 0
FreesUnnamed T old new volume volume' tallies result =
    LacksMemory old new volume volume' result
    ⊎ ReapDoes T old new volume volume' (orphans_of (readable old volume.tree.fs.number) volume.tree.top tallies) result

-- The passes

abbrev pub MendsBy : Types → Survey → StoreState → StoreState → Volume → Volume → Result (Unit {0}) Fault → Type 0
MendsBy T survey old new volume volume' result =
    (MatchResult result (λ done. ⊥) (λ fault. MendsTable T volume survey.directories survey.tallies old new (Err fault)) × (volume' ≡ volume))
    ⊎ ((middle : StoreState) × MendsTable T volume survey.directories survey.tallies old middle (Ok tt)
    × FreesUnnamed T middle new volume volume' survey.tallies result)

abbrev pub MendsInodes : Types → StoreState → StoreState → Volume → Volume → Result (Unit {0}) Fault → Type 0
MendsInodes T old new volume volume' result =
    LacksMemory old new volume volume' result
    ⊎ MendsBy T (survey_of (readable old volume.tree.fs.number) volume.tree.top) old new volume volume' result

abbrev pub PassDoes : Pass → Types → StoreState → StoreState → Volume → Volume → Result (Unit {0}) Fault → Type 0
PassDoes pass.Names T old new volume volume' result = MendsNames T volume.tree (length volume.memory.touched) old new result × (volume' ≡ volume)
PassDoes pass.Inodes T old new volume volume' result = MendsInodes T old new volume volume' result
