pub mod BandLaws
pub mod ExamplesHold
