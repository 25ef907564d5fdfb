pub mod Found
pub mod Putting
pub mod Walked
pub mod Making
pub mod Told
