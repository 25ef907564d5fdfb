pub mod Bytes
pub mod Names
pub mod Numbers
pub mod Kinds
pub mod Views
pub mod Laws
