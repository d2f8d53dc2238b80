pub mod Shapes
pub mod Refusals
pub mod Facts
pub mod FactSearch
