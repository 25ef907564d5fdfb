pub mod Declarators
pub mod Lists
