pub mod PartReading
pub mod Stops
pub mod RowReading
pub mod Clear
pub mod Sentences
pub mod Turns
pub mod Definitions
