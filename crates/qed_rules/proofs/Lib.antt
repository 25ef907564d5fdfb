pub mod FormulaPasses
pub mod RelationPasses
pub mod TermPasses
mod Marked
