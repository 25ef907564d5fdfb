pub mod Pairing
pub mod Same
pub mod Passing
pub mod View
pub mod Members
