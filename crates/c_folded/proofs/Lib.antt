pub mod Operands
pub mod Operators
pub mod Leaves
pub mod Expressions
pub mod InScope
pub mod Only
