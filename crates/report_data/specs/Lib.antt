pub mod Json
pub mod Csv
pub mod View
