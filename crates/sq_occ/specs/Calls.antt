-- What the calls of the crate answer.
pub mod Views
pub mod Scans
pub mod Lists
pub mod Bodies
pub mod Answers
