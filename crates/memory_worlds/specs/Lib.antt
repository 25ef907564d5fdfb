pub mod Changes
pub mod View
pub mod Scopes
pub mod Joins
