pub mod Typing
pub mod Functions
pub mod Diffs
pub mod Standing
pub mod Views
