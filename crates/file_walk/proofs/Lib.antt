-- The laws of the walk.
pub mod Fronts
pub mod Steps
pub mod Segments
