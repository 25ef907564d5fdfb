pub mod Formulas
pub mod Quotients
pub mod Ranges
pub mod NodeRows
