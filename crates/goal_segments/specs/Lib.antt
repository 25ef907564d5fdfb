pub mod RunSegments
pub mod RunLaws
pub mod Sets
pub mod Segments
pub mod Laws
pub mod Told
