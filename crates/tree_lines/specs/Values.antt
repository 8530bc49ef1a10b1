-- What calls of a session take and leave.
pub use Rattle.treefs_session.specs.Values.{Attributes, BlockTypes, Owner, Settings, Volume}
pub use Rattle.treefs_session.specs.declared.calls.bytes.Target.TheVariants.{Begun}
pub use Rattle.treefs_session.specs.declared.put.Put.{Put}
