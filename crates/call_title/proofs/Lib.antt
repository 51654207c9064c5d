-- The laws of texts and of the title.
pub mod Texts
pub mod TitleLaws
