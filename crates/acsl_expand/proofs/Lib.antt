pub mod Numbers
pub mod Placing
pub mod Calling
pub mod Expanding
