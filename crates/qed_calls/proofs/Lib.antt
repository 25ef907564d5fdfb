pub mod Bodies
pub mod Keeps
pub mod Fixed
pub mod Placed
pub mod Kids
