pub mod TypedValues
pub mod Growing
pub mod Bodies
pub mod Whole
