pub mod Arguments
pub mod Closing
pub mod Listed
pub mod Naming
