pub use Rattle.session_core.specs.declared.fault.SessionFault.TheVariants as SessionFaultVariants
pub use Rattle.session_core.specs.declared.fault.SessionFault
pub use Rattle.session_core.specs.Message
pub use Rattle.session_core.specs.Turn
pub use Rattle.session_core.specs.Step
pub use Rattle.session_core.specs.State
pub use Rattle.session_core.specs.declared.connection.Connection.TheVariants as ConnectionVariants
pub use Rattle.session_core.specs.declared.connection.Connection
pub use Rattle.session_core.specs.SessionView
pub mod Shelf
pub mod Bulk
pub mod Inside
