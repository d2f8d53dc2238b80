pub mod Choices
pub mod SystemLaws
pub mod EnvLaws
pub mod EnvPushes
pub mod EnvFacts
pub mod Lookups
