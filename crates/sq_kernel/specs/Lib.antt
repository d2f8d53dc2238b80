pub mod Closing
pub mod Verdicts
pub mod Goals
pub mod Labels
pub mod Openings
pub mod Proofs
pub mod Extending
pub mod Later
