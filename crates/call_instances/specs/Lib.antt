pub mod Bodies
pub mod Sorts
