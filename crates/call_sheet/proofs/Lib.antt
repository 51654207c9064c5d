pub mod ReplyLaws
pub mod WrittenLaws
