pub mod Lists
pub mod Equality
pub mod Walking
pub mod Forms
pub mod Least
pub mod Entries
pub mod Made
