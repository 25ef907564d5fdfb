pub mod Filtered
pub mod Joined
pub mod Lists
pub mod Placed
pub mod Running
