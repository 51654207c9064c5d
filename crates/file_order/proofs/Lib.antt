-- The laws of what is known, and of the row of a block.
pub mod KnownLaws
pub mod OrderLaws
