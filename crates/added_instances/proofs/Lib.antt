pub mod Bare
pub mod Going
pub mod Kept
pub mod Told
