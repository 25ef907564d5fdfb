pub mod Read
pub mod Views
