pub mod Locals
pub mod Cases
pub mod Statements
pub mod Bodies
