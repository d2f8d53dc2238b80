pub mod Process
pub mod Parses
pub mod Spent
