pub mod Lists
pub mod Read
pub mod Views
pub mod Spelled
pub mod Places
pub mod Exactness
