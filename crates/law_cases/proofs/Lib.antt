-- The checked files.
pub mod Closed
