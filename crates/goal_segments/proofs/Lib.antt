pub mod Agreeing
pub mod Whole
mod Found
pub mod Including
pub mod Heads
pub mod Singles
pub mod Following
pub mod Deep
pub mod Loops
pub mod Arguments
pub mod Calls
pub mod Statements
pub mod Runs
pub mod Spelled
pub mod Told
