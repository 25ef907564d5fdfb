pub mod Counted
pub mod Kinds_theirs
pub mod Live
pub mod Telling
pub mod Expressions
pub mod Statements
pub mod Settled
