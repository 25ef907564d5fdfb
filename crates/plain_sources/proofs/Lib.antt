pub mod Verified
pub mod Greatest
pub mod Told
