mod OfParts
mod OfPrelude
mod OfReader
pub mod OfSurvey
mod OfWords
