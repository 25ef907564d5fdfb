pub mod Verified
mod Found
pub mod Told
