pub mod Wholes
pub mod Alone
