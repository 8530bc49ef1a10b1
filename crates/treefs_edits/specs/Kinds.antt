-- Kinds of acts that are not yet named.
--     rewritten_act    the live records of a bucket are written anew, without the dead ones
--     links_act        the links of an inode change, and where told its times and its parent
--     with_patch       an act with one more patch
use Rattle.std.specs.Prelude.{ℕ, List, [], ◌∷◌, ◌++◌, Option, None, Some}
use Rattle.xn_model.specs.Calls.{Patch}
use Rattle.treefs_format.specs.Buckets.{rewritten}
use Rattle.treefs_format.specs.declared.fields.Change.{Change}
use Rattle.treefs_format.specs.declared.fields.Change.TheVariants.{Links, Mtime, Ctime, Parent}
use Rattle.treefs_model.specs.Acts.{Act, changes_act, one_patch, patch_act}
pub use Rattle.treefs_edits.specs.declared.times.Times.{Times}

-- offset: the byte of the block at which the bucket begins
abbrev pub rewritten_act : ℕ → ℕ → List ℕ → Act
rewritten_act block offset bucket = patch_act block (one_patch offset (rewritten bucket)) None

abbrev pub time_parts : Option Times → List (List Change)
time_parts None = []
time_parts (Some times) = (Mtime times.mtime ∷ Ctime times.ctime ∷ []) ∷ []

abbrev pub parent_parts : Option ℕ → List (List Change)
parent_parts None = []
parent_parts (Some parent) = (Parent parent ∷ []) ∷ []

-- the links, and where told the times and the parent, a patch each
abbrev pub links_act : ℕ → ℕ → Option Times → Option ℕ → Option ℕ → Act
links_act inode links times parent behind = changes_act inode ((Links links ∷ []) ∷ (time_parts times ++ parent_parts parent)) behind

abbrev pub with_patch : Act → Patch → Act
with_patch act patch = record act { edit = record act.edit { patches = act.edit.patches ++ patch ∷ [] } }
