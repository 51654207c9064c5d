pub mod Copy
pub mod Parts
