pub mod Building
pub mod Storing
pub mod Calling
pub mod Behind
