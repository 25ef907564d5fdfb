pub mod Addressed
pub mod Pieces
pub mod Marking
pub mod Walks
pub mod Free
pub mod Laws
