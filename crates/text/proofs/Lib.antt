-- The laws of writers, numbers, nulls and tables of names.
pub mod DecimalLaws
pub mod DecimalMeans
pub mod NameLaws
pub mod Nulls
pub mod Pieces
pub mod Writing
