pub mod Parts
pub mod Trees
pub mod Programs
pub mod View
pub mod Laws
