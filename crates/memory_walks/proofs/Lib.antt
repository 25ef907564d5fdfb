pub mod Begun
pub mod Pushed
pub mod Meeting
pub mod Kept
pub mod Alike
pub mod Walking
pub mod Along
