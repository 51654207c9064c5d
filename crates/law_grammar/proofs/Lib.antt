-- Check accepts exactly the files of the grammar.
pub mod Takes
pub mod Sentence
pub mod Exactly
