pub mod Bodies
pub mod View
pub mod Laws
