pub mod Gathered
pub mod Places
pub mod Texts
pub mod Settings
