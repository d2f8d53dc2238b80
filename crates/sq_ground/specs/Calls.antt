-- What the calls of the crate answer.
pub mod Answers
pub mod GroundMeasure
pub mod Translations
pub mod Builds
pub mod Readings
pub mod Instances
pub mod Rows
pub mod Alike
