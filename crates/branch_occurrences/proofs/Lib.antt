pub mod Gathered
pub mod FirstPlaces
