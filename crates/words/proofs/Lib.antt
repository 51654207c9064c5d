-- The laws of words and their bytes, of choices, and of numbers one after another.
pub mod Choice
pub mod NumberLaws
pub mod WordLaws
