pub mod Sound
pub mod Reading
pub mod FirstTokens
pub mod Parts
pub mod Complete
