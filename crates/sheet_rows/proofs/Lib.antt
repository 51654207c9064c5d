pub mod BandLaws
pub mod FillLaws
pub mod RecordLaws
