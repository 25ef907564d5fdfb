pub mod Starts
pub mod Bounds
pub mod Requiring
pub mod Requirements
pub mod Entering
pub mod Choices
pub mod Behaviors
pub mod Returning
