pub mod SameNodes
pub mod Nodes
pub mod Trees
pub mod Different
