pub mod Valid
pub mod One
pub mod Verdicts
