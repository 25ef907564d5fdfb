pub mod Given
pub mod Paired
pub mod Taking
pub mod Chained_so
