pub mod Cells
pub mod Laws
pub mod Changes
pub mod ChangeLaws
