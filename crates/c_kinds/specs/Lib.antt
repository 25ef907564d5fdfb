pub mod Models
pub mod Conversions
pub mod Numbers
pub mod Layouts
pub mod Laws
pub mod NumberLaws
