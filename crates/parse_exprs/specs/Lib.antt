pub mod Operators
pub mod Read
pub mod Views
pub mod Exactness
