pub mod Spelling
pub mod Numbers
pub mod Words
pub mod Lines
pub mod Reads
