pub mod Apart
pub mod Recursions
pub mod Fitting
pub mod Ordered
pub mod Examples
