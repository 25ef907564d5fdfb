pub mod Forms
pub mod Programs
pub mod Annotations
pub mod Kinds
pub mod Pointers
pub mod Orders
pub mod Clauses
pub mod Laws
