pub mod Report
pub mod Judging
