pub mod BandLaws
pub mod SignedLaws
