pub mod Sources
pub mod Built
pub mod Told
