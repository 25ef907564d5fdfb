pub mod Next
pub mod Binders
pub mod Read
pub mod Views
pub mod Parts
pub mod Exactness
