-- A volume between calls.
--     IsKept       what holds of a volume between calls: of its store, of its bytes, and of its session's memory
--     files_in     its files, with the newest times of each
--     HasNoNames, HasSomeName     no name stands in an inode; one does
use Rattle.std.specs.Prelude.{◌≡◌, ℕ, List, None, Some}
use Rattle.xn_model.specs.Types.{Types}
use Rattle.xn_model.specs.Lives.{StoreState}
use Rattle.xn_model.specs.Rules.{IsConsistent}
use Rattle.treefs_model.specs.Files.{Directory, Files, Inode, Leads, Names}
use Rattle.treefs_model.specs.Reading.{files_of}
use Rattle.treefs_lookup.specs.Readable.{readable}
use Rattle.treefs_values.specs.Kinds.{kinds}
use Rattle.treefs_values.specs.Volumes.{IsVolume}
use Rattle.treefs.specs.declared.volume.Volume.{Volume}
use Rattle.treefs_laws.specs.Seen.{IsSession, seen_files}

pub record IsKept (T : Types) (state : StoreState) (volume : Volume) : Type 0 where
  pub store : IsConsistent T state
  pub bytes : IsVolume volume.tree.node_type volume.tree.inode_type (kinds state volume.tree.fs.number) (readable state volume.tree.fs.number)
      volume.tree.top
  pub session : IsSession volume.memory

abbrev pub files_in : StoreState → Volume → Files
files_in state volume = seen_files volume.memory.touched (files_of (readable state volume.tree.fs.number) volume.tree.top)

-- an inode that is no directory, or one without a name
abbrev pub HasNoNames : Files → ℕ → Type 0
HasNoNames files n =
    (inode : Inode) (parent : ℕ) (names : Names) (name : List ℕ) → files n ≡ Some inode → inode.content ≡ Directory parent names → names name ≡ None

abbrev pub HasSomeName : Files → ℕ → Type 0
HasSomeName files n = (name : List ℕ) × (m : ℕ) × Leads files n name m
