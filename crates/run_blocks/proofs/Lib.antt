pub mod Standing
pub mod Good
