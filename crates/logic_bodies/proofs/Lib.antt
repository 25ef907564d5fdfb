pub mod Naming
pub mod Given
pub mod Bodies_made
pub mod Encoded
