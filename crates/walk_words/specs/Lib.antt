pub mod Changes
pub mod View
