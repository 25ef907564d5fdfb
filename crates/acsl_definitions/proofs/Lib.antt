pub mod Params
pub mod Last
