pub mod Converting
pub mod Examples
pub mod Laying
pub mod Ranking
pub mod Results
pub mod Sizes
pub mod TwosComplement
