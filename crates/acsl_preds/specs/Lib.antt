pub mod Binders
pub mod Ranges
pub mod Preds
