pub mod Binding
pub mod Conjuncts
pub mod Ends
pub mod Nesting
pub mod Endless
pub mod Chaining
pub mod Quantifying
