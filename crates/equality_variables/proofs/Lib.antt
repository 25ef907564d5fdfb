pub mod Stands
pub mod OpenKids
pub mod Ended
pub mod Sums
pub mod Parts
pub mod Apart
