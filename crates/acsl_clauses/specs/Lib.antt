pub mod Each
pub mod Items
pub mod Typed
pub mod Clauses
