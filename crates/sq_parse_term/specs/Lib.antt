pub mod Parse
pub mod Reads
pub mod Answers
pub mod Lists
pub mod Ended
