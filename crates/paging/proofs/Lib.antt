-- The laws of whole lines and of runs.
pub mod FitLaws
pub mod FilledLaws
pub mod RunLaws
