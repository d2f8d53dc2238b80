pub mod Kinds
pub mod Sign
