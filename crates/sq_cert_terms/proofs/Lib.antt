pub mod Steps
pub mod ReadBack
pub mod Told
pub mod Wrote
