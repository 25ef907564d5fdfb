pub mod Passing
pub mod Filing
pub mod Reading_first
pub mod Those
pub mod Parameters
