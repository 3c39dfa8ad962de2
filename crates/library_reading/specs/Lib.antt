pub mod Asked
pub mod Inside
pub mod Laws
pub mod Log
pub mod Order
pub mod Reading
pub mod Rows
pub mod Taking
