pub mod Text
pub mod Held
pub mod Words
pub mod Reader
pub mod Views
pub mod Writer
