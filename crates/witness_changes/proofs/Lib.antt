pub mod Absent
pub mod Witnessed
