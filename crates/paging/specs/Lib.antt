pub mod Fit
pub mod Run
