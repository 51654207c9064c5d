-- The laws of writing words, of texts, and of slim forms.
pub mod TextLaws
pub mod CutLaws
pub mod WordWriting
