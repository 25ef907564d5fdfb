pub mod Linear
pub mod View
pub mod Totals
