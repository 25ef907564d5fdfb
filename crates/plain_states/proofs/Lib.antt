pub mod Lists
pub mod Puts
pub mod Scoping
pub mod Calling
pub mod Entering
