pub mod Plain
pub mod Claimed
pub mod KindRuns
pub mod PointerRuns
pub mod OrderRuns
pub mod ClauseRuns
