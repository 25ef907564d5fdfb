pub mod Command
pub mod Lines
pub mod Top
pub mod View
