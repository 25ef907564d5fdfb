pub mod Lists
pub mod Silence
pub mod Expanding
pub mod Keeping
