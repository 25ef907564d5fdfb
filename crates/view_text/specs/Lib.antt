pub mod Text
pub mod Refused
pub mod Whole
