pub mod Head
pub mod Rfc4180
