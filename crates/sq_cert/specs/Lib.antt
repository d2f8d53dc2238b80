pub mod Certificates
pub mod Refusals
pub mod Progress
