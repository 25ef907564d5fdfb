pub mod Forming
pub mod Parting
pub mod Growing_more
pub mod Taking_all
pub mod Ordering_all
