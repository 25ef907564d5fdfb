pub mod Turns
pub mod Only
pub mod Whole
pub mod Fitting
pub mod FittingTwo
pub mod FittingObjects
pub mod FittingLists
pub mod Terms
