pub mod Variables
pub mod Sequenced
pub mod TypedValues
pub mod Growing
pub mod Bodies
pub mod Whole
