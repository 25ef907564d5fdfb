pub mod Standing
pub mod Gathering
pub mod Relating
pub mod OfLiterals
pub mod Answering
pub mod Deciding
