pub mod Callees
pub mod Statements
pub mod Functions
pub mod Naming
pub mod Standing
pub mod Files
pub mod Whole
pub mod Told
