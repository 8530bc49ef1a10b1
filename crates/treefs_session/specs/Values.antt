-- What calls take and leave that the crates below make.
pub use Rattle.treefs.specs.Values.{Owner, Settings}
pub use Rattle.treefs.specs.declared.attributes.Attributes.{Attributes}
pub use Rattle.treefs.specs.declared.block_types.BlockTypes.{BlockTypes}
pub use Rattle.treefs.specs.declared.volume.Volume.{Volume}
