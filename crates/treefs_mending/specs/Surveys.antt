-- What names of a volume lead to, from inode 1 on.
--     Survey           the names that are one too many; the directories that names lead to; how many names lead to each inode
--     lead_at          where a name leads
--     met              a name is met in a directory: it is one too many, or it is counted, and a directory that it leads to is to be visited
--     visited          all names of a directory are met
--     walked           the directories are visited in the order in which they are found, so breadth-first
--     unreached        the names of the directories that are not found, numbers rising: each is one too many
--     survey_of        the whole
--     IsDirectoryAt    a number is that of a directory
use Rattle.std.specs.Prelude.{◌≡◌, ℕ, zero, suc, ◌+◌, Bool, true, false, List, [], ◌∷◌, ◌++◌, flat_map, fold, slice_get, Result, Ok, Err}
use Rattle.std.specs.List.{range_with_len}
use Rattle.std.specs.Option.{option_map_or}
use Rattle.treefs_format.specs.Paths.{leaf_count}
use Rattle.treefs_format.specs.declared.kind.Kind.{Kind}
use Rattle.treefs_format.specs.declared.kind.Kind.TheVariants as kind
use Rattle.treefs_model.specs.declared.fault.Fault.{Fault}
use Rattle.treefs_lookup.specs.Inodes.{inode_found}
use Rattle.treefs_lookup.specs.declared.inodes.Found.{Found}
use Rattle.treefs_mending.specs.Names.{Name, live_names}
use Rattle.treefs_mending.specs.Tallies.{Tally, is_found, with_name}
use Rattle.treefs_mending.specs.declared.lead.Lead.{Lead}
use Rattle.treefs_mending.specs.declared.lead.Lead.TheVariants.{Surplus, NewDirectory, File}
pub use Rattle.treefs_mending.specs.declared.survey.Directory.{Directory}

pub record Survey : Type 0 where
  -- where the names stand that are one too many, in the order in which they are met
  pub surplus : List Name
  -- in the order in which they are found, from inode 1 on
  pub directories : List Directory
  -- by inode number, as far as names lead
  pub tallies : List Tally

-- Where a name leads

-- found: whether the inode was found before
abbrev pub lead_by : Found → Kind → Bool → Lead
lead_by inode kind.Directory true = Surplus
lead_by inode kind.Directory false = NewDirectory inode.block
lead_by inode kind.File found = File
lead_by inode kind.SymbolicLink found = File

abbrev pub lead_of : Result Found Fault → Bool → Lead
lead_of (Ok inode) found = lead_by inode inode.kind found
lead_of (Err fault) found = Surplus

abbrev pub lead_at : (ℕ → List ℕ) → ℕ → List Tally → ℕ → Lead
lead_at content top tallies n = lead_of (inode_found content top n) (is_found tallies n)

-- Names that are met

abbrev pub met_as : Lead → ℕ → Survey → Name → Survey
met_as Surplus d survey name = record survey { surplus = survey.surplus ++ name ∷ [] }
met_as (NewDirectory block) d survey name = record survey {
  directories = survey.directories ++ record { number = name.number; block = block } ∷ [];
  tallies = with_name survey.tallies name.number d;
}
met_as File d survey name = record survey { tallies = with_name survey.tallies name.number d }

-- d: the number of the directory in which it stands
abbrev pub met : (ℕ → List ℕ) → ℕ → ℕ → Survey → Name → Survey
met content top d survey name = met_as (lead_at content top survey.tallies name.number) d survey name

abbrev pub visited : (ℕ → List ℕ) → ℕ → Survey → Directory → Survey
visited content top survey directory = fold (met content top directory.number) survey (live_names content directory.block)

-- The walk

-- at most so many directories, from the one at a place on
abbrev pub walked : (ℕ → List ℕ) → ℕ → ℕ → ℕ → Survey → Survey
walked content top zero place survey = survey
walked content top (suc left) place survey =
    option_map_or (λ directory. walked content top left (place + 1) (visited content top survey directory)) (slice_get survey.directories place) survey

-- as many numbers as there are: each directory is found once
unfoldable pub inode_count : ℕ
inode_count = leaf_count

abbrev pub first_directories : Lead → List Directory
first_directories (NewDirectory block) = record { number = 1; block = block } ∷ []
first_directories Surplus = []
first_directories File = []

abbrev pub first_survey : (ℕ → List ℕ) → ℕ → Survey
first_survey content top = record { surplus = []; directories = first_directories (lead_of (inode_found content top 1) false); tallies = [] }

-- Directories that are not found

abbrev pub names_below : (ℕ → List ℕ) → Lead → List Name
names_below content (NewDirectory block) = live_names content block
names_below content Surplus = []
names_below content File = []

abbrev pub unreached_at : (ℕ → List ℕ) → ℕ → List Tally → ℕ → List Name
unreached_at content top tallies n = names_below content (lead_at content top tallies n)

-- of so many numbers, from one on
abbrev pub unreached_from : (ℕ → List ℕ) → ℕ → List Tally → ℕ → ℕ → List Name
unreached_from content top tallies n count = flat_map (unreached_at content top tallies) (range_with_len n count)

abbrev pub with_unreached : (ℕ → List ℕ) → ℕ → Survey → Survey
with_unreached content top survey = record survey { surplus = survey.surplus ++ unreached_from content top survey.tallies 1 inode_count }

abbrev pub survey_of : (ℕ → List ℕ) → ℕ → Survey
survey_of content top = with_unreached content top (walked content top inode_count 0 (first_survey content top))

abbrev pub IsDirectoryAt : (ℕ → List ℕ) → ℕ → ℕ → Type 0
IsDirectoryAt content top n = (inode : Found) × (inode_found content top n ≡ Ok inode) × (inode.kind ≡ kind.Directory)
