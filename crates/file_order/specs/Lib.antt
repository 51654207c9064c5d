pub mod Setup
pub mod Order
