pub mod Sights
pub mod Claims
pub mod Laws
pub mod Behaviors
