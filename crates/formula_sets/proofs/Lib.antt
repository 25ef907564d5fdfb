pub mod Inserted
pub mod Firsts
