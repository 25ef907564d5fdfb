pub mod OpenNodes
pub mod Parts
pub mod AtTerms
