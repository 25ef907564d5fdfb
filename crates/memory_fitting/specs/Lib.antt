pub mod Expressions
pub mod Values
pub mod Annotated
pub mod Statements
pub mod Functions
