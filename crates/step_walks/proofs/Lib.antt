pub mod Begun
pub mod Pushed
pub mod Meeting
pub mod Kept
pub mod Walking
pub mod Along
