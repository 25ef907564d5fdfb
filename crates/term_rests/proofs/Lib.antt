pub mod Pairs
pub mod Shapes
pub mod OfForms
pub mod Together
