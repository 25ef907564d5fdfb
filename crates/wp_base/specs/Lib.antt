pub mod Answers
pub mod Kinds
pub mod Blocks
pub mod formers
