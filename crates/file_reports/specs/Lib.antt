pub mod Bases
pub mod Lines
pub mod View
pub mod Made
pub mod Told
