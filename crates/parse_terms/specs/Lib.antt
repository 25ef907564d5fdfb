pub mod Read
pub mod Next
pub mod Views
pub mod Sets
pub mod Exactness
