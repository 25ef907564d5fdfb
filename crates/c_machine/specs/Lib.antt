pub mod Literals
pub mod Rules
pub mod Constants
pub mod Shapes
pub mod Evaluates
pub mod Laws
