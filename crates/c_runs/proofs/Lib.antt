pub mod Standing
pub mod Meaning
pub mod Definitions
pub mod Changing
pub mod Ranging
pub mod Unfolding
pub mod Numbers
pub mod Constants
mod Order
pub mod Settling
pub mod Operators
pub mod Checking
mod Failing
mod Idle
pub mod CoreValues
pub mod Pureness
pub mod Relations
pub mod Unchecked
pub mod Plans
pub mod Forks
pub mod Pure
pub mod Updates
pub mod Unaffected
pub mod Effects
pub mod All
pub mod Endings
pub mod Performed
pub mod Switches
pub mod Statements
pub mod Outcomes
pub mod NormalTold
pub mod Writing
pub mod Running
mod Ordered
pub mod CheckedTold
