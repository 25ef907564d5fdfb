pub mod Heads
pub mod Ids
