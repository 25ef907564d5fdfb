pub mod WellTyped
pub mod Terms
pub mod Places
pub mod Preds
pub mod Ranges
pub mod Clauses
pub mod Definitions
pub mod Files
