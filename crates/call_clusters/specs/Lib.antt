pub mod Callees
pub mod Laws
pub mod Rows
