mod TurnedBits
mod Bitwise
pub mod Listing
mod Cells
mod Holding
pub mod Staying
mod Integers
mod Saying
mod Operands
mod Pointers
mod Objects
mod Results
mod Operations
pub mod Meaning
mod Fitting
pub mod FittingWords
pub mod Places
mod Examples
mod Existing
