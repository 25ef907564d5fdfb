pub mod Words
pub mod Programs
pub mod Texts
pub mod Laws
pub mod Examples
