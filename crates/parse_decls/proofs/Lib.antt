pub mod Reading
pub mod Parts
pub mod Sound
pub mod Complete
pub mod SoundMembers
pub mod CompleteMembers
pub mod Laws
