pub mod Places
pub mod Claimed
