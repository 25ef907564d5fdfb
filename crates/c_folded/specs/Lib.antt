pub mod Evaluated
pub mod Folded
pub mod InScope
