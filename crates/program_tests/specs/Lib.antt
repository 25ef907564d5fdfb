pub mod Tests
pub mod Written
pub mod Laws
pub mod Examples
