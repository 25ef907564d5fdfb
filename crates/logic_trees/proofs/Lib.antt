pub mod Kids
pub mod Walking
pub mod Forms
