pub mod Framing
pub mod Arguments
