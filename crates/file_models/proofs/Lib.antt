-- What is found in a list.
pub mod ListLaws
