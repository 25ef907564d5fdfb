pub mod Answer
pub mod View
pub mod Top
