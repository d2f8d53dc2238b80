-- the facts of time, what macros are, and induction
pub mod OrderFacts
pub mod ActionFacts
pub mod Unfolding
pub mod Induction
-- the rows
pub mod Rows
pub mod Time
pub mod Answers
pub mod Laws
-- as the program reads and builds them
pub mod Instances
pub mod Nested
