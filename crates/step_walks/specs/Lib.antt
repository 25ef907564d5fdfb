pub mod Walks
pub mod View
pub mod Ways
