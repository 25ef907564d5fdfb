pub mod Leveling
pub mod Declaring
pub mod Types
pub mod Holding
