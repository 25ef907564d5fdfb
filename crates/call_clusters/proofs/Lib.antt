pub mod Calling
pub mod Classes
pub mod Paths
pub mod Reaching
pub mod Tables
pub mod Through
