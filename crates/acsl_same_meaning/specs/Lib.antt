pub mod Trees
pub mod Spelled
pub mod Preds
pub mod Definitions
pub mod Laws
pub mod Programs
