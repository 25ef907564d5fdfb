pub mod Steps
pub mod Ends
pub mod Models
pub mod Places
pub mod Stores
pub mod Turning
pub mod Running
pub mod Found
