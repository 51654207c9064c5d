pub mod Frequency
pub mod Level
