pub mod Answering
pub mod Claims
pub mod Lines
