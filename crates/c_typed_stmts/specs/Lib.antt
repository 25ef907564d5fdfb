pub mod Full
pub mod Judgement
pub mod Law
