pub mod Read
pub mod Views
pub mod Spelled
pub mod Exactness
