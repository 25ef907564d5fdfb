pub mod Alike
pub mod Laws
pub mod Memories
pub mod Passes
pub mod View
