pub mod Declarations
pub mod Candidates
