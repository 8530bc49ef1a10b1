-- An inode gets a link more, or one fewer.
use Rattle.std.specs.Prelude.{ℕ, Some}
use Rattle.treefs_model.specs.Acts.{Act}
use Rattle.treefs_edits.specs.Kinds.{links_act}
pub use Rattle.treefs_name_plans.specs.declared.link_change.LinkChange.{LinkChange}

-- behind all of a block
abbrev pub link_act : LinkChange → ℕ → Act
link_act change behind = links_act change.block change.links change.times change.parent (Some behind)
