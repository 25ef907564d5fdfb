pub mod FileNotes
pub mod Notes
pub mod Reading
