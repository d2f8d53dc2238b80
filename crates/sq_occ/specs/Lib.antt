-- the list
pub mod Entries
pub mod Walks
pub mod Searches
pub mod Sizes
-- what it is good for
pub mod Listed
pub mod Facts
pub mod Met
pub mod Atoms
pub mod ClosedLists
pub mod Scope
pub mod Reads
-- calls
pub mod Calls
