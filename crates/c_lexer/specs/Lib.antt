pub mod Bytes
pub mod Tables
pub mod Lexemes
pub mod Pieces
pub mod Tokens
pub mod Scan
pub mod Steps
