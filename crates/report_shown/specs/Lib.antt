pub mod Source
pub mod Shown
pub mod View
