pub mod Clauses
pub mod Bodies
pub mod Clusters
pub mod Files
pub mod Placing
pub mod FileLaws
pub mod Laws
pub mod Told
