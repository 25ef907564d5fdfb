pub mod Complete
pub mod First
pub mod Laws
pub mod Reading
pub mod Sound
pub mod SoundPrimaries
pub mod Tokens
