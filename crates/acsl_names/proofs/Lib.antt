pub mod Totals
pub mod Weighing
