pub mod Drawn
pub mod Heads
