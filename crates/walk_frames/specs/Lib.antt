pub mod View
pub mod Words
pub mod Evaluated
pub mod Broken
pub mod Regions
pub mod Labelled
pub mod Asked
pub mod Laws
