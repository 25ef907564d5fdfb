pub mod Gathering
pub mod Putting
pub mod Placing
