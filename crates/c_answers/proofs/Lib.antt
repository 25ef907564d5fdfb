pub mod After
pub mod Order
