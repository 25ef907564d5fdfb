pub mod Firsts
pub mod Memories
pub mod Equations
pub mod Replaced
