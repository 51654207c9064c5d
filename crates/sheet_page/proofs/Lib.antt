-- The laws of rows; that no line is long, no sheet has too many, and the head is read as it is meant.
pub mod OctaveList
pub mod RowLaws
pub mod ShortLaws
pub mod FieldLengths
pub mod LineLengths
pub mod SmallWords
pub mod Counts
pub mod Shortness
pub mod Fewness
pub mod HeadReads
