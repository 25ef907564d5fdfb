pub mod Froms
