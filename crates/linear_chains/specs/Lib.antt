pub mod Links
pub mod Chains
pub mod Sums
pub mod View
pub mod Tables
