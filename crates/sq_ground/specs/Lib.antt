-- when a goal holds at every model
pub mod Truth
pub mod Lines
pub mod Replaced
pub mod Searches
pub mod Conclusions
pub mod Rules
pub mod GroundSorts
pub mod Theories
pub mod Derivations
pub mod Holding
pub mod Goals
-- laws
pub mod Laws
pub mod DerivationLaws
pub mod Replacing
-- calls
pub mod Calls
