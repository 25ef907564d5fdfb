pub mod Naming
pub mod Statuses
