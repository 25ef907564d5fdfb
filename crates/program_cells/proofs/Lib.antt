pub mod Knowing
pub mod Flags
pub mod Adding
pub mod Kids
pub mod Expressions
pub mod Clauses
pub mod Statements
pub mod Functions
