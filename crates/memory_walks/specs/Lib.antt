pub mod Walks
pub mod Alike
pub mod View
pub mod Ways
