pub mod Told
pub mod Answering
