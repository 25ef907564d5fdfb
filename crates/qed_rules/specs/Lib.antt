pub mod Passes
pub mod Rules
pub mod View
pub mod Marked
