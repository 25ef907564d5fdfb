pub mod Listed
pub mod OfBranch
pub mod Seeing
pub mod Adding
pub mod Vanishing
pub mod Shapes
pub mod Together
