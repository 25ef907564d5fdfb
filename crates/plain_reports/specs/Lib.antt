pub mod Reports
pub mod Claims
pub mod Told
