pub mod Sums
pub mod Sides
pub mod Soundness
pub mod Agreeing
pub mod Walks
pub mod Classes
