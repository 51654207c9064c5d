-- What an accepted file says, read where its blocks start.
pub mod Always
pub mod SetupLaws
pub mod HistogramLaws
pub mod ReadLaws
pub mod TitleBrief
pub mod SpectrumLaws
pub mod LoggerLaws
