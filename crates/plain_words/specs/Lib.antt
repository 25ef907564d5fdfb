pub mod Temporaries
pub mod Standing
pub mod Sets
pub mod Results
pub mod Laws
pub mod Told
