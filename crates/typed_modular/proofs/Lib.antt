pub mod Regions
pub mod Including
pub mod Heads
pub mod Singles
pub mod Deep
pub mod Loops
pub mod Calls
pub mod Statements
pub mod Runs
pub mod Spelled
mod Examples
