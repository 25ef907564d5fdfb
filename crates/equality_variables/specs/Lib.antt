pub mod Names
pub mod Heads
pub mod Forms
