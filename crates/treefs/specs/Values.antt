-- What calls take that a crate below makes.
pub use Rattle.treefs_byte_plans.specs.declared.attributes.Attributes.{Attributes as Settings}
pub use Rattle.treefs_byte_plans.specs.declared.attributes.Owner.{Owner}
