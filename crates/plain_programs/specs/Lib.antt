pub mod Values
pub mod Standing
pub mod Files
pub mod Laws
pub mod Told
