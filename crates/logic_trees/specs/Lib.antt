pub mod Heads
pub mod Asking
pub mod Every
pub mod Told
