pub mod Facts
pub mod Regions
pub mod Formed
pub mod PairRows
