pub mod Annotated
pub mod Told
