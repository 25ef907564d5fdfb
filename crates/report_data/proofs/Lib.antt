pub mod Whole
pub mod Strings
pub mod Objects
pub mod JsonGoals
pub mod Fields
pub mod Rows
