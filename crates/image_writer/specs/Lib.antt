pub mod Write
pub mod Promise
pub mod Order
