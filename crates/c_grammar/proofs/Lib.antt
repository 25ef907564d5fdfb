pub mod Readers
pub mod SingleTokens
pub mod Chains
pub mod Levels
pub mod Separating
pub mod Turns
pub mod Knowing
