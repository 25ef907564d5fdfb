pub mod Tables
pub mod Declaring
pub mod Hiding
pub mod Among
