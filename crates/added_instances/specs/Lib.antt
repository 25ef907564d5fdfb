pub mod Truth
pub mod New
