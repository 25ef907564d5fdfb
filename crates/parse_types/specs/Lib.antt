pub mod Read
pub mod Exactness
