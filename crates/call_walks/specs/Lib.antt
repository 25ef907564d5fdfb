pub mod View
pub mod Claimed
pub mod Sets
pub mod Passed
pub mod Known
