pub mod Starts
pub mod Judge
pub mod Steps
pub mod Check
pub mod Slims
