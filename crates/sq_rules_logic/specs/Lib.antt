pub mod SideLimits
pub mod Soundness
pub mod Answers
