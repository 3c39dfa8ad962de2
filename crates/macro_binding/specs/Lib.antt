pub mod Prototypes
pub mod Entries
pub mod Inside
pub mod Bindings
pub mod Values
pub mod Held
pub mod Sorting
pub mod Lent
