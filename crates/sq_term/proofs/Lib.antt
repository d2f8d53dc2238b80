pub mod KindNumbers
pub mod Views
pub mod FormulaRules
pub mod Inverse
pub mod GroundViews
pub mod Closedness
pub mod SameParts
pub mod Connectives
mod ConflictCases
mod ModelCases
mod OccurrenceCases
pub mod Members
pub mod Lists
pub mod Records
pub mod Within
pub mod BoolTests
pub mod Models
pub mod SameTrees
