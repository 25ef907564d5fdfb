pub mod Marking
pub mod Down
pub mod Rowing
pub mod Standing
