pub mod Drafts
pub mod Laws
pub mod OverSlots
pub mod View
