pub mod RegionTrees
pub mod Standing
