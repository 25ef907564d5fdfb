pub mod Terms
pub mod FromRows
pub mod FromTerms
pub mod Means
pub mod Refuted
pub mod Stated
pub mod Forms
