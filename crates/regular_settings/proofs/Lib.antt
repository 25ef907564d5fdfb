pub mod Passing
pub mod Regular
