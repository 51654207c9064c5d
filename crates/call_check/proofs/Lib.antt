-- The laws of the judgement and of the starts.
pub mod StartLaws
pub mod Turns
pub mod Seen
pub mod Late
pub mod Onward
pub mod Numbered
pub mod Found
pub mod FoundWords
pub mod Answers
