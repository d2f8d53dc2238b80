pub mod Stacks
pub mod Sound
mod Last
mod Verdicts
mod Leavings
mod Loops
mod NamedGoals
mod Starting
mod LaterRows
