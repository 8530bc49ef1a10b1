-- A name that moves.
--     IsOfDirectory     what a name leads to is another inode, which, if it is a directory, stands in the one that has the name
--     IsRenamed         a call moved a name, and did nothing else
use Rattle.std.specs.Prelude.{◌≡◌, ◌≢◌, ℕ, true, false, List, Some, Ok}
use Rattle.xn_model.specs.Lives.{StoreState}
use Rattle.treefs_model.specs.Changes.{renamed}
use Rattle.treefs_model.specs.Files.{Directory, Files, Inode, Names, number_in}
use Rattle.treefs_lookup.specs.Readable.{readable}
use Rattle.treefs_name_plans.specs.Moves.{is_below, most_above}
use Rattle.treefs.specs.declared.volume.Volume.{Volume}
use Rattle.treefs_laws.specs.Kept.{HasNoNames, files_in}

pub record IsOfDirectory (files : Files) (d : ℕ) (name : List ℕ) : Type 0 where
  pub other : (n : ℕ) → number_in files d name ≡ Ok n → n ≢ d
  pub stands : (n : ℕ) (inode : Inode) (parent : ℕ) (names : Names) → number_in files d name ≡ Ok n → files n ≡ Some inode →
      inode.content ≡ Directory parent names → parent ≡ d

pub record IsRenamed (state state' : StoreState) (volume volume' : Volume) (d : ℕ) (name : List ℕ) (to : ℕ) (new : List ℕ) : Type 0 where
  pub number : ℕ
  pub leads : number_in (files_in state volume) d name ≡ Ok number
  -- no directory comes to stand below itself
  pub outside : (inode : Inode) (parent : ℕ) (names : Names) → files_in state volume number ≡ Some inode → inode.content ≡ Directory parent names →
      is_below (readable state volume.tree.fs.number) volume.tree.top number most_above to ≡ false
  -- no name stands in what had the new one
  pub empty : (m : ℕ) → number_in (files_in state volume) to new ≡ Ok m → m ≢ number → HasNoNames (files_in state volume) m
  pub files : renamed (files_in state volume) volume.memory.clock d name to new false true ≡ Ok (files_in state' volume')
