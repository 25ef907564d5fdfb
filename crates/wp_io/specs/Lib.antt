pub mod Faults
pub mod Memory
pub mod MemFiles
pub mod MemSink
pub mod Reads
pub mod Writes
