pub mod Rows
pub mod Sheet
pub mod Limits
pub mod ReadBack
