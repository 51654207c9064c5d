-- Additions change nothing.
pub mod Agreeing
pub mod RecordGrowth
pub mod TextGrowth
pub mod FirstWord
pub mod TableGrowth
pub mod TitleGrowth
pub mod BlockGrowth
pub mod PutBlocks
pub mod LaterDue
pub mod Unchanged
