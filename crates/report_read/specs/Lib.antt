pub mod Bytes
pub mod Report
pub mod Read
pub mod View
