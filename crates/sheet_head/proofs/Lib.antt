-- The laws of head lines, and that they are read back.
pub mod NeedLaws
pub mod HeadLaws
pub mod Printable
pub mod ReadingBack
