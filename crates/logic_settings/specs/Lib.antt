pub mod Growing
pub mod Found
