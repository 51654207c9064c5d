-- The laws of the slim copy and of Slim's answer.
pub mod Cuttable
pub mod CopyLaws
pub mod Turns
pub mod ReplyLaws
