pub mod Readable
pub mod Calls
