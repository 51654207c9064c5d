-- What holds of any block and any row of the tables.
pub mod BlockPositions
pub mod Positions
