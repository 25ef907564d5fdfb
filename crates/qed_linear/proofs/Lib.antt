pub mod Built
pub mod Canonical
pub mod Divisors
pub mod Factors
pub mod Facts
pub mod Fitting
pub mod Gathered
pub mod Multiplied
pub mod OwnForms
pub mod Places
pub mod Ring
pub mod Rounding
pub mod SumSteps
pub mod TermForms
pub mod Values
mod TotalSteps
