pub mod Words
pub mod Reading
pub mod Tokens
pub mod Sound
pub mod Complete
pub mod Laws
