pub mod View
pub mod Around
pub mod Taking
pub mod Laws
