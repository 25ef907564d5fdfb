pub mod Closing
pub mod ClosedHeads
pub mod Sorting
pub mod Unbound
pub mod Around
pub mod Calling
pub mod Annotated
pub mod Formulas
