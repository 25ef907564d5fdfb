pub mod Operands
pub mod Contexts
pub mod Wholes
pub mod Down
