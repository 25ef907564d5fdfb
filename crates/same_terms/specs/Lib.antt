pub mod Written
pub mod SameTerms
pub mod Stands
pub mod Clashes
pub mod Laws
